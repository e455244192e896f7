-- A chain of handles is a list of reads and writes: none of them is refused, and by them what stands at its front stands at its end. Gives RULES A5, A6, A8 and A10.
-- Assumes nothing.
use Rattle.std.specs.Prelude.{◌≡◌, refl, Bool, cond, List, [], ◌∷◌, ℕ, suc, ◌/◌, ◌%◌, T}
use Rattle.std.proofs.Common.{sym, ◌∙◌, ap, subst, inl, inr}
use Rattle.std.proofs.Math.Option.{Option, none, some}
use Rattle.model.specs.Bools.{cond_yes}
use Rattle.model.specs.Lists.{In}
use Rattle.model.specs.Flow.{Thing, subject, object}
use Rattle.model.specs.Tables.{Dir, reading, writing, Handle, Tables, cell, whole, arc, flow}
use Rattle.model.proofs.Tables.Laws.{cell_self, whole_by, whole_self, whole_object, whole_no_object}
use Rattle.model.specs.Steps.{Access, reads, writes, Step, mix, apply, applies}
use Rattle.model.specs.Invariant.{Wf}
use Rattle.model.specs.Calls.{Call, access, Raw, decode, target, rereads, steps, effect, refusal}
use Rattle.model.proofs.Calls.Moving.{reread_of, rereads_keep}
use Rattle.model.proofs.Calls.Dangling.{effect_wf}
use Rattle.model.specs.Book.{Contents, Book, Outside, pour, carry, carries, turn, book_from}
use Rattle.model.specs.Demand3.{Held}
use Rattle.model.proofs.Demand3.Laws.{held_allowed}
use Rattle.attack.specs.Attack.{copying, book_of, NoneRefused, Way, end, via, act, acts}

-- ── what moves data leaves the handles and the groups ──
record Moved (t u : Tables) : Type 0 where
  pub same_hand : u.hand ≡ t.hand
  pub same_kin : u.kin ≡ t.kin

moved_on : {t u v : Tables} → Moved t u → Moved u v → Moved t v
moved_on k m = record { same_hand = m.same_hand ∙ k.same_hand; same_kin = m.same_kin ∙ k.same_kin }

mix_moved : (t u : Tables) (m : Access) (a b y x : Thing) → Moved t u → Moved t (apply (mix m a b y x) u)
mix_moved t u m a b y x k = record { same_hand = k.same_hand; same_kin = k.same_kin }

access_moved : (t : Tables) (d : Dir) (s p : ℕ) → Moved t (effect t (access d s p))
unfolding effect
access_moved t d s p = let k = went d in record { same_hand = k.same_hand; same_kin = k.same_kin }
  where
    x : Thing
    x = target (t.hand s p)

    own : Moved t t
    own = record { same_hand = refl; same_kin = refl }

    went : (d : Dir) → Moved t (applies (steps t (access d s p)) t)
    went reading = mix_moved t t reads (subject s) x (cell t s) x own
    went writing = rereads_keep (Moved t) t x (λ m h u k. mix_moved t u reads (subject m) x (cell t m) x k) (apply (mix writes x (subject s) x (cell t s)) t)
        (mix_moved t t writes x (subject s) x (cell t s) own)

-- ── one handle is one read or write ──
-- what leaves the content of y, each time
carries_keep : (i o : ℕ) (y : Thing) (ks : List Step) → ((k : Step) → In k ks → (u : Tables) (c : Contents) → carry copying i o u k c y ≡ c y) → (u : Tables) (c : Contents)
    → carries copying i o u ks c y ≡ c y
carries_keep i o y [] f u c = refl
carries_keep i o y (k ∷ ks) f u c = carries_keep i o y ks (λ j m. f j (inr m)) (apply k u) (carry copying i o u k c) ∙ f k (inl refl) u c

-- RULES A7: who takes in, and each member of its group, has what the source had
access_carried : (t : Tables) → Wf t → (s p : ℕ) (k : Handle) → t.hand s p ≡ some k → (z : Thing) → T (whole t (flow (subject s) k).dst z) → (i o : ℕ) (c : Contents)
    → carries copying i o t (steps t (access k.dir s p)) c z ≡ c (flow (subject s) k).src
access_carried t w s p k q z g i o c = go k.dir g
  where
    x : Thing
    x = target (t.hand s p)

    x_is : x ≡ object k.to
    x_is = ap target q

    -- the reads that follow a write take nothing away from the object
    stays : (j : Step) → In j (rereads t x) → (u : Tables) (b : Contents) → carry copying i o u j b (object k.to) ≡ b (object k.to)
    stays j m u b = let r = reread_of t x j m in subst (λ (a : Step). carry copying i o u a b (object k.to) ≡ b (object k.to)) r.is
        (ap (λ (y : Thing). pour u b y (λ v. b x) (object k.to)) (cell_self t r.by) ∙ ap (λ (a : Bool). cond a (b x) (b (object k.to))) (whole_no_object u r.by k.to))

    go : (d : Dir) → T (whole t (arc d (subject s) (object k.to)).dst z)
        → carries copying i o t (steps t (access d s p)) c z ≡ c (arc d (subject s) (object k.to)).src
    go reading h = cond_yes (whole t (cell t s) z) (c x) (c z) (subst (λ (y : Thing). T (whole t y z)) (sym (cell_self t s)) h) ∙ ap c x_is
    go writing h = subst (λ (y : Thing). carries copying i o u (rereads t x) b y ≡ c (subject s)) (whole_object t k.to z h)
        (carries_keep i o (object k.to) (rereads t x) stays u b
        ∙ cond_yes (whole t x (object k.to)) (c (cell t s)) (c (object k.to))
        (subst (λ (y : Thing). T (whole t y (object k.to))) (sym x_is) (whole_self t (object k.to) w.teams.itself))
        ∙ ap c (cell_self t s))
      where
        u : Tables
        u = apply (mix writes x (subject s) x (cell t s)) t

        b : Contents
        b = carry copying i o t (mix writes x (subject s) x (cell t s)) c

-- RULES A10: the call on a handle
decode_act : (k : Handle) (i : ℕ) → decode (act (some k) i) ≡ access k.dir (i / 16) (i % 16)
unfolding decode
decode_act k i = go k.dir k.to k.marked k.mapped
  where
    go : (d : Dir) (o : ℕ) (a b : Bool) → decode (act (some (record { dir = d; to = o; marked = a; mapped = b })) i) ≡ access d (i / 16) (i % 16)
    go reading o a b = refl
    go writing o a b = refl

-- ── a chain of handles ──
-- RULES A5: each on a handle that stands
pub acts_held : {t : Tables} {x y : Thing} {l : List ℕ} → Way t x l y → (r : Raw) → In r (acts t l) → Held (book_of t (λ x. 0)) r
acts_held (end q) r i = absurd i
acts_held {t} (via j k z h q g on) r (inl e) = record {
  dir = k.dir;
  caller = j / 16;
  place = j % 16;
  handle = k;
  is_access = ap decode (sym e ∙ ap (λ (o : Option Handle). act o j) h) ∙ decode_act k j;
  at_place = h;
  that_direction = refl;
}
acts_held (via j k z h q g on) r (inr i) = acts_held on r i

-- in tables u that t became as data moved, the calls of the chain l of t
record Goes (t u : Tables) (x : Thing) (l : List ℕ) (y : Thing) : Type 0 where
  pub free : NoneRefused u (acts t l)
  pub carried : (out : Outside) (i : ℕ) (c : Contents) → (book_from copying out i (book_of u c) (acts t l)).content y ≡ c x

turned : (out : Outside) (i : ℕ) (u : Tables) (c : Contents) (a : Call) → refusal u a ≡ none
    → turn copying out i (book_of u c) a ≡ book_of (effect u a) (carries copying i (out i) u (steps u a) c)
turned out i u c a q = ap (λ (o : Option ℕ). elim o as (λ _. Book) [ none ↦ book_of (effect u a) (carries copying i (out i) u (steps u a) c) | some n ↦ book_of u c ]) q

along : {t : Tables} {x y : Thing} {l : List ℕ} → Way t x l y → (u : Tables) → Moved t u → Wf u → Goes t u x l y
along (end q) u m w = record { free = tt; carried = λ out i c. ap c (sym q) }
along {t} {x} {y} (via {l = l} j k z h q g on) u m w = more (along on v (moved_on m moved) (effect_wf u (decode a) w free))
  where
    s : ℕ
    s = j / 16

    p : ℕ
    p = j % 16

    a : Raw
    a = act (t.hand s p) j

    a_is : decode a ≡ access k.dir s p
    a_is = ap (λ (o : Option Handle). decode (act o j)) h ∙ decode_act k j

    held : u.hand s p ≡ some k
    held = ap (λ (f : ℕ → ℕ → Option Handle). f s p) m.same_hand ∙ h

    free : refusal u (decode a) ≡ none
    free = ap (refusal u) a_is ∙ held_allowed u w s p k held

    v : Tables
    v = effect u (decode a)

    moved : Moved u v
    moved = subst (λ (c : Call). Moved u (effect u c)) (sym a_is) (access_moved u k.dir s p)

    taken : (i o : ℕ) (c : Contents) → carries copying i o u (steps u (decode a)) c z ≡ c x
    taken i o c = subst (λ (b : Call). carries copying i o u (steps u b) c z ≡ c (flow (subject s) k).src) (sym a_is)
        (access_carried u w s p k held z (subst T (sym (whole_by u t m.same_kin (flow (subject s) k).dst z)) g) i o c) ∙ ap c q

    more : Goes t v z l y → Goes t u x (j ∷ l) y
    more r = record {
      free = (free, r.free);
      carried = λ out i c. ap (λ (b : Book). (book_from copying out (suc i) b (acts t l)).content y) (turned out i u c (decode a) free)
          ∙ r.carried out (suc i) (carries copying i (out i) u (steps u (decode a)) c) ∙ taken i (out i) c;
    }

-- RULES A6: none of them is refused
pub acts_free : (t : Tables) → Wf t → {x y : Thing} {l : List ℕ} → Way t x l y → NoneRefused t (acts t l)
acts_free t w r = (along r t (record { same_hand = refl; same_kin = refl }) w).free

-- RULES A8: what x holds is what y holds in the end
pub acts_carry : (t : Tables) → Wf t → {x y : Thing} {l : List ℕ} → Way t x l y → (out : Outside) (i : ℕ) (c : Contents)
    → (book_from copying out i (book_of t c) (acts t l)).content y ≡ c x
acts_carry t w r = (along r t (record { same_hand = refl; same_kin = refl }) w).carried
