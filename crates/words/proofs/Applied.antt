-- A guarded delete: what is written is what was answered, and the words left hold the index. Assumes nothing.
use Prim.Native.Nat.{ℕ, ◌+◌, ◌*◌, ◌≤◌}
use mathlib.Core.Bool.{not}
use mathlib.Core.List.{List, map}
use mathlib.Core.Path.{◌≡◌, refl, sym, ap, ◌∙◌, subst}
use native.Mathlib.Omega.{arith}
use lib.Dec.{T}
use lib.Ieee.{is_nan}
use lib.ListN.{length, length-map}
use Rattle.lists.specs.Lists.{range, put_front}
use Rattle.std.specs.Prelude.{Result, Ok, Err}
use Rattle.slots.specs.Sizes.{Slices}
use Rattle.repair.specs.Delete.{Stats}
use Rattle.guard.specs.Guard as Guard
use Rattle.deletion.specs.declared.stats.DeleteStats.{DeleteStats}
use Rattle.deletion.specs.Batch.{stats_at, stats_of, records_of, stats_in}
use Rattle.deletion.proofs.Records.{records_are}
use Rattle.admission.specs.declared.report.Report.{Report}
use Rattle.calls.specs.Calls.{Delete}
use Rattle.calls.specs.Outputs.{written}
use Rattle.index.specs.declared.Index.{Index}
use Rattle.index.specs.declared.Refusal.{Refusal}
use Rattle.updating.specs.declared.Changed.{Changed}
use Rattle.guarding.specs.declared.Guarded.{Guarded}
use Rattle.guarding.specs.declared.Guarded.TheVariants.{Applied, Deferred}
use Rattle.guarding.specs.Guarded.{guarded_outputs, guarded_as, index_kept, Guards}
use Rattle.guarding.proofs.Guards.{applied_alpha}
use Rattle.words.specs.declared.deleting.Left.{Left}
use Rattle.words.specs.IndexWords.{index_of}
use Rattle.words.specs.Given.{map_ok, put, guarded_words, GuardsWords}
use Rattle.words.specs.Inner.Putting.{guarded_left, LeavesGuarded}
use Rattle.words.proofs.Held.{number_left, held_left}
use Rattle.words.proofs.Emptied.{front_of}

-- ---- the call

module _ {s : Slices} {a : Delete} {room : ℕ} {checked lost scratch : List ℕ} {s' : Slices} {checked' lost' scratch' : List ℕ} where
  -- the new index's alpha is a number
  pub applied_number : {index : Index} {r : Result Guarded Refusal} → Guards index s a room checked lost scratch s' checked' lost' scratch' r
      → (d : Changed) (v : Report) → r ≡ Ok (Applied d v) → T (not (is_nan d.index.alpha))
  applied_number {index} c d v e = number_left d.index (applied_alpha (subst (Guards index s a room checked lost scratch s' checked' lost' scratch') e c))

  -- the words left hold the index
  held : (words : List ℕ) (found : ℕ) (place : List ℕ) {words' : List ℕ} (r : Result Guarded Refusal) → Guards (index_of words) s a room checked lost scratch s' checked' lost' scratch' r
      → words' ≡ (put (map_ok (guarded_words words) r) (words, found, place)).1.0 → index_of words' ≡ index_kept (index_of words) r
  unfolding index_kept
  held words found place (Ok (Applied d v)) c t = ap index_of t ∙ held_left words d.index (applied_alpha c)
  held words found place (Ok (Deferred v)) c t = ap index_of t
  held words found place (Err e) c t = ap index_of t

  -- the stats lie inside the scratch
  lies : {index : Index} {at count : ℕ} (r : Result Guarded Refusal) → Guards index s a room checked lost scratch s' checked' lost' scratch' r
      → (at, count) ≡ guarded_left r (stats_at index.capacity) → at + 4 * count ≤ length scratch'
  lies (Ok (Applied d v)) c e = omega (arith, ap (λ x. x.0) e, ap (λ x. x.1) e, c.there d v refl)
  lies (Ok (Deferred v)) c e = omega (arith, ap (λ x. x.0) e, ap (λ x. x.1) e)
  lies (Err k) c e = omega (arith, ap (λ x. x.0) e, ap (λ x. x.1) e)

  pub leaves_guarded : (words : List ℕ) (found : ℕ) (place : List ℕ) {words' : List ℕ} {found' : ℕ} {place' : List ℕ} {l : Left} {i : Index} {at : ℕ} (r : Result Guarded Refusal)
      → i ≡ index_of words → at ≡ stats_at i.capacity → Guards i s a room checked lost scratch s' checked' lost' scratch' r
      → ((l.status, (words', found', place')) ≡ put (map_ok (guarded_words words) r) (words, found, place)) × ((l.at, l.count) ≡ guarded_left r at)
      → LeavesGuarded words s a room checked lost scratch words' s' checked' lost' scratch' found found' place place' l
  leaves_guarded words found place r e h c p =
      let c' = subst (λ j. Guards j s a room checked lost scratch s' checked' lost' scratch' r) e c in
      let q = p.1 ∙ ap (guarded_left r) (h ∙ ap (λ (j : Index). stats_at j.capacity) e) in
      record { answer = r; does = c'; told = p.0; held = held words found place r c' (ap (λ x. x.1.0) p.0); place = q; inside = lies r c' q }

-- ---- the records

listed : (place : ℕ) (w : List ℕ) {at count : ℕ} (ys vs : List DeleteStats) → vs ≡ put_front (records_of w at count) ys → (r : Result Guarded Refusal) (ts : List Stats) (report : Guard.Report) (checked lost : List ℕ)
    → ((d : Changed) (v : Report) → r ≡ Ok (Applied d v) → ts ≡ map (stats_of w place) (range 0 d.count)) → (at, count) ≡ guarded_left r place
    → map stats_in vs ≡ (written (guarded_as r ts report) (guarded_outputs (map stats_in ys) checked lost)).stats
unfolding guarded_as written
listed place w ys vs f (Err k) ts report checked lost g e = ap (map stats_in) (f ∙ ap (λ (x : ℕ × ℕ). put_front (records_of w x.0 x.1) ys) e)
listed place w ys vs f (Ok (Applied d v)) ts report checked lost g e =
    ap (map stats_in) (f ∙ ap (λ (x : ℕ × ℕ). put_front (records_of w x.0 x.1) ys) e)
    ∙ front_of stats_in (records_of w place d.count) ys
    ∙ ap (λ (l : List Stats). put_front l (map stats_in ys)) (records_are w place d.count ∙ sym (g d v refl))
listed place w ys vs f (Ok (Deferred v)) ts report checked lost g e = ap (map stats_in) (f ∙ ap (λ (x : ℕ × ℕ). put_front (records_of w x.0 x.1) ys) e)

module _ {words : List ℕ} {s : Slices} {a : Delete} {checked lost scratch words' : List ℕ} {s' : Slices} {checked' lost' scratch' : List ℕ} {found found' : ℕ} {report report' : List ℕ} {r : Left} where
  -- what `write_stats` asks
  pub asked : {room : ℕ} → LeavesGuarded words s a room checked lost scratch words' s' checked' lost' scratch' found found' report report' r
      → (r.count ≤ room) × (r.at + 4 * r.count ≤ length scratch')
  asked {room} c = (go c.answer c.does.fits c.place, c.inside)
    where
      go : (q : Result Guarded Refusal) → ((d : Changed) (v : Report) → q ≡ Ok (Applied d v) → d.count ≤ room) → (r.at, r.count) ≡ guarded_left q (stats_at (index_of words).capacity) → r.count ≤ room
      go (Ok (Applied d v)) f e = omega (arith, ap (λ x. x.1) e, f d v refl)
      go (Ok (Deferred v)) f e = omega (arith, ap (λ x. x.1) e)
      go (Err k) f e = omega (arith, ap (λ x. x.1) e)

  pub guards_words : (ys : List DeleteStats) {vs : List DeleteStats} → vs ≡ put_front (records_of scratch' r.at r.count) ys
      → LeavesGuarded words s a (length ys) checked lost scratch words' s' checked' lost' scratch' found found' report report' r
      → GuardsWords words s a (guarded_outputs (map stats_in ys) checked lost) scratch words' s' (guarded_outputs (map stats_in vs) checked' lost') scratch' found found' report report' r.status
  guards_words ys {vs} f c =
      let k : length (map stats_in ys) ≡ length ys = length-map ys stats_in in
      let d = c.does in
      record {
        answer = c.answer;
        does = record {
          report = d.report;
          stats = d.stats;
          numbers_applied = d.numbers_applied;
          numbers_deferred = d.numbers_deferred;
          words = d.words;
          there = d.there;
          fits = λ x v e. rw k (d.fits x v e);
          meets = λ l e. d.meets l (e ∙ k);
        };
        told = c.told;
        held = c.held;
        listed =
            ap (λ (l : List Stats). guarded_outputs l checked' lost') (listed (stats_at (index_of words).capacity) scratch' ys vs f c.answer d.stats d.report checked lost d.words c.place)
            ∙ (d.meets (map stats_in ys) k).writes;
      }
