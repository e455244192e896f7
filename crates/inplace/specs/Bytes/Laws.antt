-- What stands at an index of a part, and what a store of one handle's bytes makes of them. Assumes nothing.
use Rattle.std.specs.Prelude.{◌≡◌, ℕ, zero, suc, ◌+◌, ◌*◌, ◌<◌, List, length, get_or, ◌≢◌, slice_index, slice_index_or, slice_set}
use Rattle.std.proofs.Math.Path.{refl, ap}
use Rattle.std.proofs.Common.{sym, ◌∙◌, length-set, get_or-set_same, get_or-set_other, ext_get_or}
use native.Mathlib.Omega.{arith}
use Rattle.std.proofs.Math.Decide.{ℕ_discrete}
use Rattle.tables.specs.declared.Handle.{Handle}
use Rattle.tables.specs.Records.{no_subject, no_object, no_handle}
use Rattle.inplace.specs.Bytes.{from, subject_of, object_of, handle_of, subjects_in, objects_in, handles_in}

module _ {A : Type 0} (f : ℕ → A) where
  pub length_from : (k n : ℕ) → length (from f k n) ≡ n
  unfolding from
  length_from k zero = refl
  length_from k (suc n) = ap suc (length_from (suc k) n)

  pub getD_from : (k n j : ℕ) (d : A) → j < n → slice_index_or (from f k n) j d ≡ f (k + j)
  unfolding from
  getD_from k zero j d h = absurd (omega arith)
  getD_from k (suc n) zero d h = let e : k ≡ k + 0 = omega arith in ap f e
  getD_from k (suc n) (suc j) d h = let e : suc k + j ≡ k + suc j = omega arith in getD_from (suc k) n j d (omega arith) ∙ ap f e

pub length_subjects : (b : List ℕ) → length (subjects_in b) ≡ 32
unfolding subjects_in
length_subjects b = length_from (subject_of b) 0 32

pub length_objects : (b : List ℕ) → length (objects_in b) ≡ 64
unfolding objects_in
length_objects b = length_from (object_of b) 0 64

pub length_handles : (b : List ℕ) → length (handles_in b) ≡ 512
unfolding handles_in
length_handles b = length_from (handle_of b) 0 512

pub subject_there : (b : List ℕ) (i : ℕ) → i < 32 → slice_index_or (subjects_in b) i no_subject ≡ subject_of b i
unfolding subjects_in
subject_there b i h = let e : 0 + i ≡ i = omega arith in getD_from (subject_of b) 0 32 i no_subject h ∙ ap (subject_of b) e

pub object_there : (b : List ℕ) (i : ℕ) → i < 64 → slice_index_or (objects_in b) i no_object ≡ object_of b i
unfolding objects_in
object_there b i h = let e : 0 + i ≡ i = omega arith in getD_from (object_of b) 0 64 i no_object h ∙ ap (object_of b) e

pub handle_there : (b : List ℕ) (i : ℕ) → i < 512 → slice_index_or (handles_in b) i no_handle ≡ handle_of b i
unfolding handles_in
handle_there b i h = let e : 0 + i ≡ i = omega arith in getD_from (handle_of b) 0 512 i no_handle h ∙ ap (handle_of b) e

-- ── the three bytes of one handle ──
module _ (b : List ℕ) (i : ℕ) (h : Handle) (long : length b ≡ 1536) (low : i < 512) where
  abbrev b₁ : List ℕ
  b₁ = slice_set b (3 * i) h.way

  abbrev b₂ : List ℕ
  b₂ = slice_set b₁ (3 * i + 1) h.object

  long₁ : length b₁ ≡ 1536
  long₁ = length-set b (3 * i) h.way ∙ long

  long₂ : length b₂ ≡ 1536
  long₂ = length-set b₁ (3 * i + 1) h.object ∙ long₁

  pub length_stored : length (slice_set b₂ (3 * i + 1 + 1) h.mark) ≡ 1536
  length_stored = length-set b₂ (3 * i + 1 + 1) h.mark ∙ long₂

  -- another byte
  else : (k : ℕ) → (k ≢ 3 * i) → (k ≢ 3 * i + 1) → (k ≢ 3 * i + 1 + 1) → slice_index (slice_set b₂ (3 * i + 1 + 1) h.mark) k ≡ slice_index b k
  else k n₀ n₁ n₂ = get_or-set_other b₂ (3 * i + 1 + 1) k h.mark 0 n₂ ∙ get_or-set_other b₁ (3 * i + 1) k h.object 0 n₁
      ∙ get_or-set_other b (3 * i) k h.way 0 n₀

  same_way : get_or (slice_set b₂ (3 * i + 1 + 1) h.mark) (3 * i) 0 ≡ h.way
  same_way = get_or-set_other b₂ (3 * i + 1 + 1) (3 * i) h.mark 0 (λ e. omega arith) ∙ get_or-set_other b₁ (3 * i + 1) (3 * i) h.object 0 (λ e. omega arith)
      ∙ get_or-set_same b (3 * i) h.way 0 (omega (arith, long))

  same_object : get_or (slice_set b₂ (3 * i + 1 + 1) h.mark) (3 * i + 1) 0 ≡ h.object
  same_object = get_or-set_other b₂ (3 * i + 1 + 1) (3 * i + 1) h.mark 0 (λ e. omega arith) ∙ get_or-set_same b₁ (3 * i + 1) h.object 0 (omega (arith, long₁))

  same_mark : get_or (slice_set b₂ (3 * i + 1 + 1) h.mark) (3 * i + 1 + 1) 0 ≡ h.mark
  same_mark = get_or-set_same b₂ (3 * i + 1 + 1) h.mark 0 (omega (arith, long₂))

  pub handles_stored : handles_in (slice_set b₂ (3 * i + 1 + 1) h.mark) ≡ slice_set (handles_in b) i h
  handles_stored = ext_get_or no_handle _ _ (length_handles _ ∙ sym (length-set (handles_in b) i h ∙ length_handles b)) (λ j l. at j (omega (arith, length_handles (slice_set b₂ (3 * i + 1 + 1) h.mark))))
    where
      at : (j : ℕ) → j < 512 → slice_index_or (handles_in (slice_set b₂ (3 * i + 1 + 1) h.mark)) j no_handle ≡ slice_index_or (slice_set (handles_in b) i h) j no_handle
      at j l = handle_there (slice_set b₂ (3 * i + 1 + 1) h.mark) j l ∙ go (ℕ_discrete j i)
        where
          go : Dec (j ≡ i) → handle_of (slice_set b₂ (3 * i + 1 + 1) h.mark) j ≡ slice_index_or (slice_set (handles_in b) i h) j no_handle
          go (yes e) = rw e (λ k. record { way = same_way k; object = same_object k; mark = same_mark k })
              ∙ sym (ap (λ (k : ℕ). get_or (slice_set (handles_in b) i h) k no_handle) e ∙ get_or-set_same (handles_in b) i h no_handle (omega (arith, length_handles b)))
          go (no n) = (λ k. record {
            way = else (3 * j) (λ e. n (omega arith)) (λ e. omega arith) (λ e. omega arith) k;
            object = else (3 * j + 1) (λ e. omega arith) (λ e. n (omega arith)) (λ e. omega arith) k;
            mark = else (3 * j + 1 + 1) (λ e. omega arith) (λ e. omega arith) (λ e. n (omega arith)) k;
          }) ∙ sym (get_or-set_other (handles_in b) i j h no_handle n ∙ handle_there b j l)
