-- How code that tests one thing after another meets a definition by `cond`: `here` where a test holds, `past` where it fails. Assumes
-- nothing.
use Rattle.std.proofs.Common.{◌≡◌, Bool, true, false, cond, sym, ap, ◌∙◌}

pub here : {A : Type 0} (b : Bool) (x y : A) {r : A} → b ≡ true → r ≡ x → r ≡ cond b x y
here b x y q e = e ∙ sym (ap (λ (c : Bool). cond c x y) q)

pub past : {A : Type 0} (b : Bool) (x y : A) {r : A} → b ≡ false → r ≡ y → r ≡ cond b x y
past b x y q e = e ∙ sym (ap (λ (c : Bool). cond c x y) q)
