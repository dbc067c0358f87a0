-- The live row of a slot, read one place after the other. Assumes nothing.
use Prim.Native.Nat.{ℕ, ◌+◌, ◌*◌, ◌≤◌, ◌<◌}
use mathlib.Core.Path.{◌≡◌, refl, ap, ◌∙◌}
use mathlib.Core.List.{List, [], ◌∷◌, ◌++◌, append_assoc, append-nil}
use native.Mathlib.Omega.{arith}
use lib.ListN.{length, drop, set}
use Rattle.std.proofs.lemmas.List.{drop-set-lt}
use lib.Ieee.{Float}
use Rattle.lists.proofs.All.{all_append}
use Rattle.lists.proofs.Parts.{fits_in}
use Rattle.vectors.specs.Vector.{Bytes}
use Rattle.vectors.specs.Space.{slot_distance, space, Measured}
use Rattle.candidates.specs.Candidates.{scored}
use Rattle.candidates.specs.Inner.Words.{pair, cands, put, Small}
use Rattle.candidates.proofs.Words.{put_length, front_push}
use Rattle.slots.specs.Store.{Arrays, vector_of, store_view}
use Rattle.slots.specs.Inner.Rows.{RowShape, ref_at, live_from}
use Rattle.std.specs.Prelude.{Option, Some, None}
use Rattle.slots.proofs.Places.{live_from_whole, live_from_end, live_from_at, live_from_dead, ref_inside}
use Rattle.row.specs.Row.{index_of, live_scored, LiveScored}

-- the distance of two slots of lent bytes
abbrev between : Arrays → ℕ → ℕ → ℕ
between a s t = slot_distance (space a.measure a.dim a.vectors) s t

-- the live targets before this place are written, n of them
pub record Scoring (a : Arrays) (s : ℕ) (w₀ : List ℕ) (w : List ℕ) (n place : ℕ) : Type 0 where
  pub goes : cands w 0 n ++ scored (between a s) (live_from a s place) ≡ scored (between a s) (live_from a s 0)
  pub few : n ≤ place
  pub bound : place ≤ a.degree
  pub small : Small (cands w 0 n)
  pub size : length w ≡ length w₀
  pub same : drop (2 * a.degree) w ≡ drop (2 * a.degree) w₀

pub scoring_none : (a : Arrays) (s : ℕ) (w : List ℕ) → Scoring a s w w 0 0
unfolding cands
scoring_none a s w = record { goes = refl; few = omega arith; bound = omega arith; small = tt; size = refl; same = refl }

view_scored : (a : Arrays) (s : ℕ) (alpha : Float) (entry : ℕ) → scored (between a s) (live_from a s 0) ≡ live_scored (store_view (index_of alpha entry a)) s
unfolding slot_distance space store_view vector_of
view_scored a s alpha entry = ap (scored (between a s)) (live_from_whole a s)

module _ {a : Arrays} {s : ℕ} {w₀ : List ℕ} {w : List ℕ} {n place : ℕ} (f : Scoring a s w₀ w n place) where
  module _ (o : RowShape a.degree a.targets a.edges a.versions a.marks) (h : s < length a.marks) (k : place < a.degree) {r : Option ℕ} (e : r ≡ ref_at a s place) where
    pub scoring_near : {t : ℕ} → Bytes a.dim (length a.marks) a.vectors → r ≡ Some t
        → (s * a.dim + a.dim ≤ length a.vectors) × (t * a.dim + a.dim ≤ length a.vectors) × (a.dim ≤ 256)
    scoring_near {t} b q =
        (fits_in a.dim (length a.marks) s (length a.vectors) h b.long, fits_in a.dim (length a.marks) t (length a.vectors) (ref_inside a s place e q) b.long, b.small)

    pub scoring_live : {t d : ℕ} → r ≡ Some t → Measured (between a s t) d → 2 * a.degree ≤ length w₀ → Scoring a s w₀ (put w (2 * n) d t) (n + 1) (place + 1)
    scoring_live {t} {d} q m l =
        let p : cands (put w (2 * n) d t) 0 (n + 1) ≡ cands w 0 n ++ (pair d t ∷ []) = front_push w d t n (omega (arith, f.size, f.few)) in
        record {
          goes = rw (p, append_assoc, m.equals) (rw (live_from_at a o s place h k e q) at f.goes);
          few = omega (arith, f.few);
          bound = omega arith;
          small = rw p (all_append (λ x. x.dist ≤ 16777216) (cands w 0 n) (pair d t ∷ []) f.small (omega (arith, m.bound), tt));
          size = put_length w (2 * n) d t ∙ f.size;
          same = drop-set-lt (2 * a.degree) (set w (2 * n) d) (2 * n + 1) t (omega (arith, f.few)) ∙ drop-set-lt (2 * a.degree) w (2 * n) d (omega (arith, f.few)) ∙ f.same;
        }

    pub scoring_dead : r ≡ None → Scoring a s w₀ w n (place + 1)
    scoring_dead q =
        record {
          goes = rw (live_from_dead a o s place h k e q) at f.goes;
          few = omega (arith, f.few);
          bound = omega arith;
          small = f.small;
          size = f.size;
          same = f.same;
        }

  pub scoring_done : a.degree ≤ place → LiveScored a s n w × (drop (2 * a.degree) w ≡ drop (2 * a.degree) w₀)
  scoring_done h =
      let e : cands w 0 n ≡ scored (between a s) (live_from a s 0) = rw (live_from_end a s place h, append-nil) at f.goes in (
        record {
          list = λ alpha entry. e ∙ view_scored a s alpha entry;
          few = omega (arith, f.few, f.bound);
          small = f.small;
        },
        f.same,
      )
