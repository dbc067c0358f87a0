-- What making writes, from what each slice holds then. Assumes nothing.
use Rattle.std.proofs.Common.{◌≡◌, ℕ, ◌-◌, ◌*◌, List, ◌++◌, length, replicate, sym, ap, ◌∙◌, mul_comm}
use native.Mathlib.Nat.{mul-sub}
use Rattle.slots.specs.Sizes.{limits}
use Rattle.slots.specs.Store.{blank, new_arrays, arrays}
use Rattle.slots.specs.Inner.Making.{Room, New}

-- the places of the free slots
free_places : (d n given m k : ℕ) → n ≡ m * d → k ≡ given * d → n - k ≡ (m - given) * d
free_places d n given m k e f = rw (e, f, mul_comm m d, mul_comm given d) (sym (mul-sub d m given) ∙ mul_comm d (m - given))

filled : (v m n : ℕ) {l : List ℕ} → m ≡ n → l ≡ replicate m v → l ≡ replicate n v
filled v m n e h = rw e at h

pub new_by : {dim capacity degree given : ℕ} {bytes rows vectors targets edges versions marks pool vectors' targets' edges' versions' marks' pool' : List ℕ}
    → Room dim capacity degree given bytes rows vectors targets edges versions marks pool
    → vectors' ≡ bytes ++ replicate (length vectors - length bytes) 0
    → targets' ≡ rows ++ replicate (length targets - length rows) blank
    → edges' ≡ replicate (length edges) 0
    → versions' ≡ replicate (length versions) 0
    → marks' ≡ replicate given 1 ++ replicate (length marks - given) 0
    → pool' ≡ replicate (length pool) 0
    → New dim capacity degree given bytes rows vectors' targets' edges' versions' marks' pool'
unfolding new_arrays
new_by {dim} {capacity} {degree} {given} {bytes} {rows} {vectors} {targets} {edges} {versions} {marks} {pool} r v t e n m p =
    let v₁ = v ∙ ap (λ k. bytes ++ replicate k 0) (free_places dim (length vectors) given capacity (length bytes) r.vectors_long r.bytes_long) in
    let t₁ = t ∙ ap (λ k. rows ++ replicate k blank) (free_places degree (length targets) given capacity (length rows) r.targets_long r.rows_long) in
    let e₁ = filled 0 (length edges) (capacity * degree) r.edges_long e in
    let n₁ = filled 0 (length versions) capacity r.versions_long n in
    let m₁ = m ∙ ap (λ k. replicate given 1 ++ replicate (k - given) 0) r.marks_long in
    record { does = λ measure alpha i. arrays measure dim degree (v₁ i) (t₁ i) (e₁ i) (n₁ i) (m₁ i); pool_empty = filled 0 (length pool) limits.pool r.pool_long p }
