-- The lists that a call is lent for its answer, and what it writes to them. Assumes nothing.
use Rattle.std.specs.Prelude.{ℕ, List, [], map, Float, length}
use Rattle.lists.specs.Lists.{put_front}
use Rattle.candidates.specs.Candidates.{Candidate, ids}
use Rattle.vectors.specs.Distance.{f32}
use Rattle.repair.specs.Delete.{Stats}
use Rattle.calls.specs.Calls.{Room, Answer, refused, created, number, alpha, version, vector, found, inserted, deleted, standing, assessed, applied, deferred}

-- search is lent slots, distances and figure numbers, insert slots, a delete stats, assess two lists of landmarks; where a call is lent no such list it is empty
pub record Outputs : Type 0 where
  pub slots : List ℕ
  pub dists : List Float
  pub numbers : List ℕ
  pub stats : List Stats
  pub checked : List ℕ
  pub lost : List ℕ

abbrev pub no_outputs : Outputs
no_outputs = record { slots = []; dists = []; numbers = []; stats = []; checked = []; lost = [] }

unfoldable pub room_of : Outputs → Room
room_of o =
    record {
      slots = length o.slots;
      dists = length o.dists;
      numbers = length o.numbers;
      stats = length o.stats;
      checked = length o.checked;
      lost = length o.lost;
    }

-- the distances as the apps get them
abbrev pub distances : List Candidate → List Float
distances cs = map (λ c. f32 c.dist) cs

-- a list written from the first place on; what stands past it stays
abbrev put_slots : List ℕ → Outputs → Outputs
put_slots l o = record { slots = put_front l o.slots; dists = o.dists; numbers = o.numbers; stats = o.stats; checked = o.checked; lost = o.lost }

abbrev put_dists : List Float → Outputs → Outputs
put_dists l o = record { slots = o.slots; dists = put_front l o.dists; numbers = o.numbers; stats = o.stats; checked = o.checked; lost = o.lost }

abbrev put_numbers : List ℕ → Outputs → Outputs
put_numbers l o = record { slots = o.slots; dists = o.dists; numbers = put_front l o.numbers; stats = o.stats; checked = o.checked; lost = o.lost }

abbrev put_stats : List Stats → Outputs → Outputs
put_stats l o = record { slots = o.slots; dists = o.dists; numbers = o.numbers; stats = put_front l o.stats; checked = o.checked; lost = o.lost }

abbrev put_checked : List ℕ → Outputs → Outputs
put_checked l o = record { slots = o.slots; dists = o.dists; numbers = o.numbers; stats = o.stats; checked = put_front l o.checked; lost = o.lost }

abbrev put_lost : List ℕ → Outputs → Outputs
put_lost l o = record { slots = o.slots; dists = o.dists; numbers = o.numbers; stats = o.stats; checked = o.checked; lost = put_front l o.lost }

-- what a call writes
unfoldable pub written : Answer → Outputs → Outputs
written (refused n) o = o
written created o = o
written (number n) o = o
written (alpha a) o = o
written (version n) o = o
written (vector l) o = o
written (found cs ns) o = put_slots (ids cs) (put_dists (distances cs) (put_numbers ns o))
written (inserted ss) o = put_slots ss o
written (deleted ts) o = put_stats ts o
written (standing s) o = o
written (assessed r) o = put_checked r.checked (put_lost r.lost o)
written (applied ts r) o = put_stats ts (put_checked r.checked (put_lost r.lost o))
written (deferred r) o = put_checked r.checked (put_lost r.lost o)
