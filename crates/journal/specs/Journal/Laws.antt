-- Laws of reading a journal. In order: what a record says of the offsets; numbers and bodies that were written are read back,
-- and nothing else reads as they do; then the two laws to quote, that a record written is read as its call, at any offset
-- and with anything after it, and that only one record stands for a call. Assumes nothing.
use Rattle.std.specs.Prelude.{◌≡◌, refl, ℕ, zero, suc, ◌+◌, ◌-◌, ◌≤◌, ◌<◌, Bool, true, false, cond, Option, Some, None, ltb, take, drop}
use Rattle.std.specs.Option.{option_map}
use Rattle.std.proofs.Common.{sym, ap, ◌∙◌, subst, arith, length-drop, take-append-drop, take-add, drop-drop, length-take-le, ltb-false, lt-ltb, le-ltb}
use mathlib.Core.List.{List, [], ◌∷◌, ◌++◌, append_assoc}
use Rattle.std.proofs.Math.ListN.{length, length-append}
use Rattle.std.proofs.Math.Seq.{take-append_seam, drop-append_seam}
use Rattle.number.specs.Leb.{AtMost, AreBytes, largest, encode, Reading, good, number}
use Rattle.number.specs.Leb.Laws.{clash, at_most_take, at_most_drop, encode_some, number_encode, number_only, number_within}
use Rattle.journal.specs.Answers.{answers, refused, body, end, said}
use Rattle.journal.specs.Calls.{most_numbers, arity_of, known, filled, arguments_of}
use Rattle.journal.specs.Calls.Laws.{arity_most, known_code, filled_front}
use Rattle.journal.specs.Record.{encodes, body_of, record_of, recording, recorded}
use Rattle.journal.specs.Record.Laws.{body_length, recording_made, recorded_made}
use Rattle.journal.specs.Journal.{sized, entry_at, and_then, numbers_in, arguments_in, call_with, coded, body_in, Reads}

-- ---- a record and its offsets

-- the length is a good number of k bytes, the body follows it, and then the next record
pub record Stands (journal : List ℕ) (at start len next k : ℕ) : Type 0 where
  pub length_read : number largest (drop at journal) ≡ good len k
  pub starts : at + k ≡ start
  pub ends : start + len ≡ next
  pub within : next ≤ length journal

pub entry_stands : (journal : List ℕ) (at start len next : ℕ) → entry_at journal at ≡ answers (body start len next)
    → (k : ℕ) × Stands journal at start len next k
unfolding entry_at
entry_stands journal at start len next = by_end (ltb at (length journal))
  where
    Found : Type 0
    Found = (k : ℕ) × Stands journal at start len next k

    by_room : (l k : ℕ) → number largest (drop at journal) ≡ good l k → (t : Bool) → ltb (length journal) (at + k + l) ≡ t
        → cond t (refused 11) (answers (body (at + k) l (at + k + l))) ≡ answers (body start len next) → Found
    by_room l k g true q e = clash (cc)
    by_room l k g false q e =
        let s : at + k ≡ start = cc in
        let m : l ≡ len = cc in
        let n : at + k + l ≡ next = cc in (
          k,
          record {
            length_read = g ∙ ap (λ (x : ℕ). good x k) m;
            starts = s;
            ends = omega arith;
            within = omega (arith, ltb-false (length journal) (at + k + l) q);
          },
        )

    by_length : (r : Reading) → number largest (drop at journal) ≡ r → sized journal at r ≡ answers (body start len next) → Found
    by_length (Some (l, k)) g e = by_room l k g (ltb (length journal) (at + k + l)) refl e
    by_length None g e = clash (cc)

    by_end : (t : Bool) → cond t (sized journal at (number largest (drop at journal))) (answers end) ≡ answers (body start len next) → Found
    by_end true e = by_length (number largest (drop at journal)) refl e
    by_end false e = clash (cc)

-- so a journal's records come one after the other
pub entry_next : (journal : List ℕ) (at start len next : ℕ) → entry_at journal at ≡ answers (body start len next)
    → (at < next) × (next ≤ length journal)
entry_next journal at start len next e =
    let (k, s) = entry_stands journal at start len next e in
    (omega (arith, (number_within largest (drop at journal) len k s.length_read).0, s.starts, s.ends), s.within)

-- ---- numbers, one after the other

numbers_back : (ns : List ℕ) → AtMost largest ns → numbers_in (length ns) (encodes ns) ≡ Some ns
unfolding numbers_in encodes
numbers_back [] are = refl
numbers_back (n ∷ ns) are =
    ap (λ (r : Reading). and_then r (encode n ++ encodes ns) (numbers_in (length ns))) (number_encode largest n (encodes ns) (are 0))
    ∙ ap (λ (t : List ℕ). option_map (λ (ms : List ℕ). n ∷ ms) (numbers_in (length ns) t)) (drop-append_seam (encode n) (encodes ns))
    ∙ ap (option_map (λ (ms : List ℕ). n ∷ ms)) (numbers_back ns (λ i. are (suc i)))

-- the coding of the first number, then that of the others
front_and_rest : (most : ℕ) (bs : List ℕ) → AreBytes bs → (n k : ℕ) → number most bs ≡ good n k → bs ≡ encode n ++ drop k bs
front_and_rest most bs are n k e = sym (take-append-drop k bs) ∙ ap (λ (t : List ℕ). t ++ drop k bs) (number_only most bs are n k e)

numbers_only : (k : ℕ) (bs : List ℕ) → AreBytes bs → (ns : List ℕ) → numbers_in k bs ≡ Some ns → (bs ≡ encodes ns) × (length ns ≡ k)
unfolding numbers_in encodes
numbers_only zero [] are [] e = (refl, refl)
numbers_only zero [] are (n ∷ ns) e = clash (cc)
numbers_only zero (b ∷ bs) are ns e = clash (cc)
numbers_only (suc k) bs are ns e = by_number (λ u ms q. numbers_only k (drop u bs) (at_most_drop 255 u bs are) ms q) (number largest bs) refl e
  where
    Rest : ℕ → Type 0
    Rest u = (ms : List ℕ) → numbers_in k (drop u bs) ≡ Some ms → (drop u bs ≡ encodes ms) × (length ms ≡ k)

    by_rest : (n u : ℕ) → number largest bs ≡ good n u → Rest u → (o : Option (List ℕ)) → numbers_in k (drop u bs) ≡ o
        → option_map (λ (ms : List ℕ). n ∷ ms) o ≡ Some ns → (bs ≡ encodes ns) × (length ns ≡ suc k)
    by_rest n u g ih None q e = clash (cc)
    by_rest n u g ih (Some ms) q e =
        let (rest, count) = ih ms q in
        let p : n ∷ ms ≡ ns = cc in
        (front_and_rest largest bs are n u g ∙ ap (λ (t : List ℕ). encode n ++ t) rest ∙ ap encodes p, sym (ap length p) ∙ ap suc count)

    by_number : ((u : ℕ) → Rest u) → (r : Reading) → number largest bs ≡ r → and_then r bs (numbers_in k) ≡ Some ns
        → (bs ≡ encodes ns) × (length ns ≡ suc k)
    by_number ih (Some (n, u)) g e = by_rest n u g (ih u) (numbers_in k (drop u bs)) refl e
    by_number ih None g e = clash (cc)

-- ---- bodies

body_back : (code : ℕ) (ns : List ℕ) → known code ≡ true → code ≤ largest → arity_of code ≤ length ns → AtMost largest ns
    → body_in (body_of code ns) ≡ said code (answers (arguments_of code ns))
unfolding body_in body_of encodes arguments_in
body_back code ns k l enough are =
    let numbers = take (arity_of code) ns in
    let count : length numbers ≡ arity_of code = length-take-le (arity_of code) ns enough in
    let back = sym (ap (λ (j : ℕ). numbers_in j (encodes numbers)) count) ∙ numbers_back numbers (at_most_take largest (arity_of code) ns are) in
    ap (λ (r : Reading). coded r (encode code ++ encodes numbers)) (number_encode largest code (encodes numbers) l)
    ∙ ap (λ (t : List ℕ). said code (cond (known code) (call_with (arguments_in (arity_of code) t)) (refused 1)))
    (drop-append_seam (encode code) (encodes numbers))
    ∙ ap (λ (t : Bool). said code (cond t (call_with (arguments_in (arity_of code) (encodes numbers))) (refused 1))) k
    ∙ ap (λ (o : Option (List ℕ)). said code (call_with (option_map (filled most_numbers) o))) back

body_only : (bs : List ℕ) → AreBytes bs → (code : ℕ) (ns : List ℕ) → body_in bs ≡ said code (answers ns) → bs ≡ body_of code ns
unfolding body_in body_of encodes arguments_in
body_only bs are code ns = by_number (number largest bs) refl
  where
    by_numbers : (co u : ℕ) → number largest bs ≡ good co u → (o : Option (List ℕ)) → numbers_in (arity_of co) (drop u bs) ≡ o
        → said co (call_with (option_map (filled most_numbers) o)) ≡ said code (answers ns) → bs ≡ encode code ++ encodes (take (arity_of code) ns)
    by_numbers co u g None q e = clash (cc)
    by_numbers co u g (Some ms) q e =
        let (rest, count) = numbers_only (arity_of co) (drop u bs) (at_most_drop 255 u bs are) ms q in
        let same : co ≡ code = cc in
        let full : filled most_numbers ms ≡ ns = cc in
        let m : length ms ≡ arity_of code = count ∙ ap arity_of same in
        let short : length ms ≤ most_numbers = omega (arith, count, arity_most co) in
        let front : ms ≡ take (arity_of code) ns =
        sym (filled_front most_numbers ms short) ∙ ap (λ (j : ℕ). take j (filled most_numbers ms)) m ∙ ap (take (arity_of code)) full in
        front_and_rest largest bs are co u g ∙ ap (λ (t : List ℕ). encode co ++ t) rest
        ∙ ap (λ (x : ℕ). encode x ++ encodes ms) same ∙ ap (λ (t : List ℕ). encode code ++ encodes t) front

    by_code : (co u : ℕ) → number largest bs ≡ good co u → (t : Bool)
        → said co (cond t (call_with (arguments_in (arity_of co) (drop u bs))) (refused 1)) ≡ said code (answers ns)
        → bs ≡ encode code ++ encodes (take (arity_of code) ns)
    by_code co u g true e = by_numbers co u g (numbers_in (arity_of co) (drop u bs)) refl e
    by_code co u g false e = clash (cc)

    by_number : (r : Reading) → number largest bs ≡ r → coded r bs ≡ said code (answers ns) → bs ≡ encode code ++ encodes (take (arity_of code) ns)
    by_number (Some (co, u)) g e = by_code co u g (known co) e
    by_number None g e = clash (cc)

-- ---- records

-- a length, then as many bytes
module _ (before bs after : List ℕ) (fits : length bs ≤ largest) where
  whole : List ℕ
  whole = before ++ ((encode (length bs) ++ bs) ++ after)

  from_record : drop (length before) whole ≡ encode (length bs) ++ (bs ++ after)
  unfolding whole
  from_record = drop-append_seam before ((encode (length bs) ++ bs) ++ after) ∙ append_assoc (encode (length bs)) bs after

  from_body : drop (length before + length (encode (length bs))) whole ≡ bs ++ after
  from_body =
      sym (drop-drop (length (encode (length bs))) (length before) whole)
      ∙ ap (drop (length (encode (length bs)))) from_record ∙ drop-append_seam (encode (length bs)) (bs ++ after)

  measured : length whole ≡ length before + length (encode (length bs)) + length bs + length after
  unfolding whole
  measured = simp length-append (omega arith)

  entry_back : entry_at whole (length before)
      ≡ answers (body (length before + length (encode (length bs))) (length bs) (length before + length (encode (length bs)) + length bs))
  unfolding entry_at
  entry_back =
      let some = encode_some (length bs) in
      let full : length before < length whole = omega (arith, measured) in
      let room : length before + length (encode (length bs)) + length bs ≤ length whole = omega (arith, measured) in
      simp (lt-ltb (length before) (length whole) full)
      (ap (sized whole (length before)) (ap (number largest) from_record ∙ number_encode largest (length bs) (bs ++ after) fits)
      ∙ simp (le-ltb (length whole) (length before + length (encode (length bs)) + length bs) room))

  body_there : take (length bs) (drop (length before + length (encode (length bs))) whole) ≡ bs
  body_there = ap (take (length bs)) from_body ∙ take-append_seam bs after

-- a record that was written is read as its call, wherever it stands and whatever follows it
pub record_back : (before after : List ℕ) (code : ℕ) (ns : List ℕ) → known code ≡ true → arity_of code ≤ length ns → AtMost largest ns
    → Reads (before ++ (record_of code ns ++ after)) (length before) (length before + length (record_of code ns)) code (arguments_of code ns)
unfolding record_of whole
record_back before after code ns k enough are =
    let bs = body_of code ns in
    let small : length bs ≤ largest = omega (arith, body_length code ns k are) in
    record {
      start = length before + length (encode (length bs));
      len = length bs;
      entry =
          entry_back before bs after small
          ∙ ap (λ (n : ℕ). answers (body (length before + length (encode (length bs))) (length bs) n)) (omega (arith, length-append (encode (length bs)) bs));
      says = ap body_in (body_there before bs after small) ∙ body_back code ns k (omega (arith, known_code code k)) enough are;
    }

-- so is what the writer left in a buffer, which may stand anywhere in the journal
pub recorded_back : (before out : List ℕ) (code : ℕ) (ns : List ℕ) (n : ℕ) → recording code ns out ≡ answers n
    → arity_of code ≤ length ns → AtMost largest ns
    → Reads (before ++ recorded code ns out) (length before) (length before + n) code (arguments_of code ns)
recorded_back before out code ns n e enough are =
    let (k, room, count) = recording_made code ns out n e in
    let rest = drop (length (record_of code ns)) out in
    subst (λ (t : List ℕ). Reads (before ++ t) (length before) (length before + n) code (arguments_of code ns)) (sym (recorded_made code ns out k room))
    (subst (λ (j : ℕ). Reads (before ++ (record_of code ns ++ rest)) (length before) (length before + j) code (arguments_of code ns)) (sym count)
    (record_back before rest code ns k enough are))

-- only one record stands for a call: bytes that read as a call are the record that is written for it
pub record_only : (journal : List ℕ) → AreBytes journal → (at next code : ℕ) (ns : List ℕ) → Reads journal at next code ns
    → take (next - at) (drop at journal) ≡ record_of code ns
unfolding record_of
record_only journal are at next code ns r =
    let start = r.start in
    let len = r.len in
    let (k, s) = entry_stands journal at start len next r.entry in
    let here = drop at journal in
    let bytes = take len (drop start journal) in
    let only : bytes ≡ body_of code ns = body_only bytes (at_most_take 255 len (drop start journal) (at_most_drop 255 start journal are)) code ns r.says in
    let count : len ≡ length bytes = sym (length-take-le len (drop start journal) (omega (arith, s.ends, s.within, length-drop start journal))) in
    let taken : next - at ≡ k + len = omega (arith, s.starts, s.ends) in
    ap (λ (j : ℕ). take j here) taken ∙ take-add k len here
    ∙ ap (λ (t : List ℕ). t ++ take len (drop k here)) (number_only largest here (at_most_drop 255 at journal are) len k s.length_read)
    ∙ ap (λ (t : List ℕ). encode len ++ take len t) (drop-drop k at journal ∙ ap (λ (j : ℕ). drop j journal) s.starts)
    ∙ ap (λ (j : ℕ). encode j ++ bytes) (count ∙ ap length only) ∙ ap (λ (t : List ℕ). encode (length (body_of code ns)) ++ t) only
