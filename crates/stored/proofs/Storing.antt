-- Storing into bytes: a loop that stores the values of a part, from the front (`Laid`); all of a state, part after part; and a loop that stores zeros. Assumes nothing.
use mathlib.Core.Path.{◌≡◌, refl, sym, ap, ap₂, ◌∙◌}
use mathlib.Core.List.{List, [], ◌∷◌, ◌++◌, append_assoc, append-nil}
use Prim.Native.Nat.{ℕ, suc, ◌+◌, ◌-◌, ◌*◌, ◌≤◌, ◌<◌}
use native.Mathlib.Omega.{arith}
use native.Mathlib.Nat.{mul-suc, mul-le-mul_left}
use native.Mathlib.Numerals.{add-one}
use lib.ListN.{length, take, drop, get_or, set, replicate, length-append, length-replicate, get_or-replicate}
use lib.Seq.{length-take-le, take-suc, take_all, sets, sets-eq, drop-drop}
use Rattle.std.proofs.Common.{length-drop, drop_of_length-le}
use borrow.Rule.Slice.PartMut.{put_mid}
use Rattle.gatekeeper.specs.declared.Monitor.{Monitor}
use Rattle.tally.specs.declared.Tally.{Tally}
use Rattle.stored.specs.State.{state_bytes, objects_at, handles_at, made_at, gone_at, freeze_at, needs_at, numbers_at, groups_at}
use Rattle.stored.specs.State.{flat, byte_record, digits, subject_bytes, object_bytes, handle_bytes, need_bytes, number_bytes, group_bytes, bytes_of}
use Rattle.stored.specs.Widths.{length_digits}
use Rattle.stored.specs.State.Laws.{length_flat, flat_append, Long, subjects_count, objects_count, handles_count, needs_count, numbers_count, groups_count, bytes_length}
use Rattle.stored.specs.Over.{over}
use Rattle.stored.specs.Over.Laws.{over_none, over_length, over_next, over_all}

-- ── records of bytes ──
-- bytes stored one by one, from index `at` on
abbrev pub stores : List ℕ → ℕ → List ℕ → List ℕ
stores s at [] = s
stores s at (u ∷ e) = stores (set s at u) (at + 1) e

stores_sets : (s : List ℕ) (at : ℕ) (e : List ℕ) → stores s at e ≡ sets s at e
stores_sets s at [] = refl
stores_sets s at (u ∷ e) = stores_sets (set s at u) (at + 1) e ∙ ap (λ (k : ℕ). sets (set s at u) k e) (add-one at)

pub stores_over : (s : List ℕ) (at : ℕ) (e : List ℕ) → at + length e ≤ length s → stores s at e ≡ over at e s
unfolding over
stores_over s at e h = stores_sets s at e ∙ sets-eq e s at h ∙ append_assoc (take at s) e (drop (at + length e) s)

-- bytes copied into their place
pub copied : (s : List ℕ) (at k : ℕ) (e : List ℕ) → k ≡ length e → put_mid at k s e ≡ over at e s
unfolding over
copied s at k e h = ap (λ (t : List ℕ). take at s ++ (e ++ t)) (drop-drop k at s ∙ ap (λ (j : ℕ). drop (at + j) s) h)

-- the first i of the n elements of l, w bytes each, were stored over o, from index b on, which is now s
pub record Laid {A : Type 0} (g : A → List ℕ) (w b n : ℕ) (l : List A) (o s : List ℕ) (i : ℕ) : Type 0 where
  pub wide : (x : A) → length (g x) ≡ w
  pub within : i ≤ n
  pub long : length l ≡ n
  pub room : b + w * n ≤ length o
  pub is : s ≡ over b (flat g (take i l)) o

pub laid_none : {A : Type 0} (g : A → List ℕ) (w b n : ℕ) (l : List A) (o : List ℕ) → ((x : A) → length (g x) ≡ w) → length l ≡ n
    → b + w * n ≤ length o → Laid g w b n l o o 0
unfolding flat
laid_none g w b n l o e h r = record { wide = e; within = omega arith; long = h; room = r; is = sym (over_none b o) }

module _ {A : Type 0} {g : A → List ℕ} {w b n : ℕ} {l : List A} {o s : List ℕ} {i : ℕ} (p : Laid g w b n l o s i) where
  count : length (flat g (take i l)) ≡ w * i
  count = length_flat g w p.wide (take i l) ∙ ap (λ (k : ℕ). w * k) (length-take-le i l (omega (arith, p.within, p.long)))

  pub laid_long : length s ≡ length o
  laid_long = ap length p.is ∙ over_length b (flat g (take i l)) o (omega (arith, count, p.room, mul-le-mul_left {m = i} {n = n} w p.within))

  fits : (at : ℕ) (e : List ℕ) (x : A) → i < n → at ≡ b + w * i → e ≡ g x → at + length e ≤ length s
  fits at e x h ha he = omega (
    arith,
    ap length he,
    p.wide x,
    p.room,
    laid_long,
    mul-suc w i,
    mul-le-mul_left {m = suc i} {n = n} w (omega arith),
  )

  -- one element more, laid over what there is
  pub laid_over : (at : ℕ) (e : List ℕ) (d : A) (s' : List ℕ) → i < n → at ≡ b + w * i → e ≡ g (get_or l i d) → s' ≡ over at e s → Laid g w b n l o s' (i + 1)
  unfolding flat
  laid_over at e d s' h ha he q =
      let x = get_or l i d in
      let one_more : flat g (take (i + 1) l) ≡ flat g (take i l) ++ g x =
      ap (λ (k : ℕ). flat g (take k l)) (add-one i)
      ∙ ap (flat g) (take-suc l i d (omega (arith, p.long)))
      ∙ flat_append g (take i l) (x ∷ [])
      ∙ ap (λ (t : List ℕ). flat g (take i l) ++ t) (append-nil (g x)) in
      record {
        wide = p.wide;
        within = omega arith;
        long = p.long;
        room = p.room;
        is = q
            ∙ over_next b at (flat g (take i l)) e o s (omega (arith, p.room)) (omega (arith, count)) p.is
            ∙ ap (λ (t : List ℕ). over b t o) (ap (λ (t : List ℕ). flat g (take i l) ++ t) he ∙ sym one_more);
      }

  -- or stored byte by byte
  pub laid_more : (at : ℕ) (e : List ℕ) (d : A) → i < n → at ≡ b + w * i → e ≡ g (get_or l i d) → Laid g w b n l o (stores s at e) (i + 1)
  laid_more at e d h ha he = laid_over at e d (stores s at e) h ha he (stores_over s at e (fits at e (get_or l i d) h ha he))

  pub laid_all : n ≤ i → s ≡ over b (flat g l) o
  laid_all h = p.is ∙ ap (λ (y : List A). over b (flat g y) o) (take_all i l (omega (arith, p.long)))

-- ── all of a state ──
-- two numbers, one behind the other
pub both_flat : (i j : ℕ) (o : List ℕ) → over 0 (flat (digits 8) (i ∷ j ∷ [])) o ≡ over 0 (digits 8 i ++ digits 8 j) o
unfolding flat
both_flat i j o = ap (λ (l : List ℕ). over 0 (digits 8 i ++ l) o) (append-nil (digits 8 j))

-- the first n bytes of o had e stored over them, and now e' is, behind it
pub part_next : (n at k : ℕ) (e e' o s p : List ℕ) → length o ≡ n → at + k ≡ n → length e ≡ at → at + length e' ≤ n → s ≡ over 0 e o
    → p ≡ over 0 e' (take k (drop at s)) → put_mid at k s p ≡ over 0 (e ++ e') o
unfolding over
part_next n at k e e' o s p lo ak le room es ep =
    let ls : length s ≡ n = ap length es ∙ over_length 0 e o (omega arith) ∙ lo in
    let all : take k (drop at s) ≡ drop at s = take_all k (drop at s) (omega (arith, length-drop at s)) in
    let none : drop k (drop at s) ≡ [] = drop_of_length-le (drop at s) {i = k} (omega (arith, length-drop at s)) in
    let z : 0 + length e' ≡ length e' = omega arith in
    let is : put_mid at k s p ≡ over at e' s =
    ap₂ (λ (x y : List ℕ). take at s ++ (x ++ y)) (ep ∙ ap (over 0 e') all) none
    ∙ ap (λ (x : List ℕ). take at s ++ x) (append-nil (e' ++ drop (0 + length e') (drop at s)) ∙ ap (λ (x : List ℕ). e' ++ x) (ap (λ (j : ℕ). drop j (drop at s)) z ∙ drop-drop (length e') at s)) in
    is ∙ over_next 0 at e e' o s (omega arith) (omega arith) es

module _ (m : Monitor) (y : Tally) (long : Long m) (o : List ℕ) (size : length o ≡ state_bytes) where
  pub laid_whole : (p₁ p₂ p₃ p₄ p₅ p₆ p₇ : List ℕ) →
      let s₁ = put_mid 0 state_bytes o p₁ in
      let s₂ = put_mid objects_at (state_bytes - objects_at) s₁ p₂ in
      let s₃ = put_mid handles_at (state_bytes - handles_at) s₂ p₃ in
      let s₄ = put_mid made_at (state_bytes - made_at) s₃ p₄ in
      let s₅ = set s₄ freeze_at m.freeze in
      let s₆ = put_mid needs_at (state_bytes - needs_at) s₅ p₅ in
      let s₇ = put_mid numbers_at (state_bytes - numbers_at) s₆ p₆ in
      let s₈ = put_mid groups_at (state_bytes - groups_at) s₇ p₇ in
      p₁ ≡ over 0 (subject_bytes m.subjects) (take state_bytes (drop 0 o))
      → p₂ ≡ over 0 (object_bytes m.objects) (take (state_bytes - objects_at) (drop objects_at s₁))
      → p₃ ≡ over 0 (handle_bytes m.handles) (take (state_bytes - handles_at) (drop handles_at s₂))
      → p₄ ≡ over 0 (digits 8 y.made ++ digits 8 y.gone) (take (state_bytes - made_at) (drop made_at s₃))
      → p₅ ≡ over 0 (need_bytes m.needs) (take (state_bytes - needs_at) (drop needs_at s₅))
      → p₆ ≡ over 0 (number_bytes m.numbers) (take (state_bytes - numbers_at) (drop numbers_at s₆))
      → p₇ ≡ over 0 (group_bytes m.groups) (take (state_bytes - groups_at) (drop groups_at s₇))
      → s₈ ≡ bytes_of m y
  unfolding bytes_of
  laid_whole p₁ p₂ p₃ p₄ p₅ p₆ p₇ e₁ e₂ e₃ e₄ e₅ e₆ e₇ =
      let a = subject_bytes m.subjects in
      let b = object_bytes m.objects in
      let c = handle_bytes m.handles in
      let d = digits 8 y.made in
      let e = digits 8 y.gone in
      let f = m.freeze ∷ [] in
      let g = need_bytes m.needs in
      let h = number_bytes m.numbers in
      let i = group_bytes m.groups in
      let la : length a ≡ objects_at = subjects_count m y long in
      let lb : length (a ++ b) ≡ handles_at = omega (arith, length-append a b, objects_count m y long) in
      let lc : length (a ++ b ++ c) ≡ made_at = omega (arith, length-append (a ++ b) c, handles_count m y long) in
      let ld : length (a ++ b ++ c ++ d) ≡ gone_at = omega (arith, length-append (a ++ b ++ c) d, length_digits 8 y.made) in
      let le : length (a ++ b ++ c ++ d ++ e) ≡ freeze_at = omega (arith, length-append (a ++ b ++ c ++ d) e, length_digits 8 y.gone) in
      let lf : length (a ++ b ++ c ++ d ++ e ++ f) ≡ needs_at = omega (arith, length-append (a ++ b ++ c ++ d ++ e) f) in
      let lg : length (a ++ b ++ c ++ d ++ e ++ f ++ g) ≡ numbers_at = omega (arith, length-append (a ++ b ++ c ++ d ++ e ++ f) g, needs_count m y long) in
      let lh : length (a ++ b ++ c ++ d ++ e ++ f ++ g ++ h) ≡ groups_at = omega (arith, length-append (a ++ b ++ c ++ d ++ e ++ f ++ g) h, numbers_count m y long) in
      let li : length i ≡ state_bytes - groups_at = groups_count m y long in
      let s₁ = put_mid 0 state_bytes o p₁ in
      let s₂ = put_mid objects_at (state_bytes - objects_at) s₁ p₂ in
      let s₃ = put_mid handles_at (state_bytes - handles_at) s₂ p₃ in
      let s₄ = put_mid made_at (state_bytes - made_at) s₃ p₄ in
      let s₅ = set s₄ freeze_at m.freeze in
      let s₆ = put_mid needs_at (state_bytes - needs_at) s₅ p₅ in
      let s₇ = put_mid numbers_at (state_bytes - numbers_at) s₆ p₆ in
      let q₁ : s₁ ≡ over 0 a o = part_next state_bytes 0 state_bytes [] a o o p₁ size refl refl (omega arith) (sym (over_none 0 o)) e₁ in
      let q₂ : s₂ ≡ over 0 (a ++ b) o = part_next state_bytes objects_at (state_bytes - objects_at) a b o s₁ p₂ size refl la (omega (arith, lb, length-append a b)) q₁ e₂ in
      let q₃ : s₃ ≡ over 0 (a ++ b ++ c) o = part_next state_bytes handles_at (state_bytes - handles_at) (a ++ b) c o s₂ p₃ size refl lb (omega (arith, lc, length-append (a ++ b) c)) q₂ e₃ in
      let q₄ : s₄ ≡ over 0 (a ++ b ++ c ++ d ++ e) o = part_next state_bytes made_at (state_bytes - made_at) (a ++ b ++ c) (d ++ e) o s₃ p₄ size refl lc (omega (arith, le, ld, lc, length-append d e, length_digits 8 y.made, length_digits 8 y.gone)) q₃ e₄
      ∙ ap (λ (l : List ℕ). over 0 l o) (sym (append_assoc (a ++ b ++ c) d e)) in
      let room : freeze_at + 1 ≤ length s₄ = omega (arith, ap length q₄, over_length 0 (a ++ b ++ c ++ d ++ e) o (omega arith)) in
      let q₅ : s₅ ≡ over 0 (a ++ b ++ c ++ d ++ e ++ f) o = stores_over s₄ freeze_at f room
      ∙ over_next 0 freeze_at (a ++ b ++ c ++ d ++ e) f o s₄ (omega arith) (omega arith) q₄ in
      let q₆ : s₆ ≡ over 0 (a ++ b ++ c ++ d ++ e ++ f ++ g) o = part_next state_bytes needs_at (state_bytes - needs_at) (a ++ b ++ c ++ d ++ e ++ f) g o s₅ p₅ size refl lf (omega (arith, needs_count m y long)) q₅ e₅ in
      let q₇ : s₇ ≡ over 0 (a ++ b ++ c ++ d ++ e ++ f ++ g ++ h) o = part_next state_bytes numbers_at (state_bytes - numbers_at) (a ++ b ++ c ++ d ++ e ++ f ++ g) h o s₆ p₆ size refl lg (omega (arith, numbers_count m y long)) q₆ e₆ in
      part_next state_bytes groups_at (state_bytes - groups_at) (a ++ b ++ c ++ d ++ e ++ f ++ g ++ h) i o s₇ p₇ size refl lh (omega (arith, li)) q₇ e₇
      ∙ over_all (a ++ b ++ c ++ d ++ e ++ f ++ g ++ h ++ i) o (bytes_length m y long ∙ sym size)

-- ── bytes one by one ──
flat_byte : (l : List ℕ) → flat byte_record l ≡ l
unfolding flat
flat_byte [] = refl
flat_byte (b ∷ l) = ap (λ (t : List ℕ). b ∷ t) (flat_byte l)

-- the first i of the bytes of o are now 0, in s
abbrev pub Zeroed : List ℕ → List ℕ → ℕ → Type 0
Zeroed o s i = Laid byte_record 1 0 (length o) (replicate (length o) 0) o s i

pub zeroed_none : (o : List ℕ) → Zeroed o o 0
zeroed_none o = laid_none byte_record 1 0 (length o) (replicate (length o) 0) o (λ x. refl) (length-replicate {A = ℕ} (length o) 0) (omega arith)

module _ {o s : List ℕ} {i : ℕ} (p : Zeroed o s i) where
  pub zeroed_more : i < length s → Zeroed o (set s i 0) (i + 1)
  zeroed_more h = let l : i < length o = omega (arith, laid_long p) in
      laid_more p i (0 ∷ []) 0 l (omega arith) (ap byte_record (sym (get_or-replicate (length o) i 0 0 l)))

  pub zeroed_all : length s ≤ i → s ≡ replicate (length o) 0
  zeroed_all h = let zeros : List ℕ = replicate (length o) 0 in
      laid_all p (omega (arith, laid_long p))
      ∙ ap (λ (t : List ℕ). over 0 t o) (flat_byte zeros)
      ∙ over_all zeros o (length-replicate {A = ℕ} (length o) 0)
