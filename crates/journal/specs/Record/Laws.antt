-- Laws of the bytes of records. In order: numbers one after the other, and how many bytes they take; the longest record; what
-- the writer answers, and leaves in the buffer. Assumes nothing.
use Rattle.std.specs.Prelude.{◌≡◌, refl, ℕ, suc, ◌+◌, ◌*◌, ◌≤◌, ◌<◌, Bool, true, false, cond, List, [], ◌∷◌, ◌++◌, ltb, length, take, drop, get_or}
use Rattle.std.proofs.Common.{sym, ap, ◌∙◌, arith, add-one, append_assoc, append-nil, length-append, length-take, take-append-drop, take-suc, ltb-false}
use Rattle.number.specs.Leb.{AtMost, largest, longest, encode}
use Rattle.number.specs.Leb.Laws.{clash, at_most_take, encode_length, encode_bytes}
use Rattle.number.specs.Put.Laws.{put_fits}
use Rattle.journal.specs.Answers.{answers, refused, length_in}
use Rattle.journal.specs.Calls.{most_numbers, arity_of, known}
use Rattle.journal.specs.Calls.Laws.{arity_most, known_code}
use Rattle.journal.specs.Record.{longest_record, encodes, body_of, record_of, fitting, recording, recorded}

-- ---- numbers, one after the other

encodes_append : (xs ys : List ℕ) → encodes (xs ++ ys) ≡ encodes xs ++ encodes ys
unfolding encodes
encodes_append [] ys = refl
encodes_append (x ∷ xs) ys = ap (λ (t : List ℕ). encode x ++ t) (encodes_append xs ys) ∙ sym (append_assoc (encode x) (encodes xs) (encodes ys))

-- one number more
pub encodes_suc : (ns : List ℕ) (i : ℕ) → i < length ns → encodes (take (i + 1) ns) ≡ encodes (take i ns) ++ encode (get_or ns i 0)
unfolding encodes
encodes_suc ns i h = rw (add-one i, take-suc ns i 0 h, encodes_append (take i ns) (get_or ns i 0 ∷ []), append-nil (encode (get_or ns i 0)))

-- some of them take no more bytes than all
pub encodes_take : (ns : List ℕ) (i : ℕ) → length (encodes (take i ns)) ≤ length (encodes ns)
encodes_take ns i =
    let whole = ap (λ (t : List ℕ). length (encodes t)) (take-append-drop i ns) in
    omega (arith, whole, ap length (encodes_append (take i ns) (drop i ns)), length-append (encodes (take i ns)) (encodes (drop i ns)))

encodes_length : (ns : List ℕ) → AtMost largest ns → length (encodes ns) ≤ longest * length ns
unfolding encodes
encodes_length [] are = omega arith
encodes_length (n ∷ ns) are =
    let rest = encodes_length ns (λ i. are (suc i)) in
    omega (arith, length-append (encode n) (encodes ns), encode_bytes n (are 0), rest)

-- ---- the longest record

pub body_length : (code : ℕ) (ns : List ℕ) → known code ≡ true → AtMost largest ns → length (body_of code ns) ≤ 1 + longest * most_numbers
unfolding body_of encodes
body_length code ns k are =
    let numbers = take (arity_of code) ns in
    let few : length numbers ≤ most_numbers = omega (arith, length-take (arity_of code) ns, arity_most code) in
    let one : length (encode code) ≤ 1 = encode_length 1 code (omega arith) (omega (arith, known_code code k)) in
    let rest = encodes_length numbers (at_most_take largest (arity_of code) ns are) in
    omega (arith, length-append (encode code) (encodes numbers), one, rest, few)

-- RULES J22: a record has at most 62 bytes
pub record_length : (code : ℕ) (ns : List ℕ) → known code ≡ true → AtMost largest ns → length (record_of code ns) ≤ longest_record
unfolding record_of
record_length code ns k are =
    let len = body_length code ns k are in
    let one : length (encode (length (body_of code ns))) ≤ 1 = encode_length 1 (length (body_of code ns)) (omega arith) (omega (arith, len)) in
    omega (arith, length-append (encode (length (body_of code ns))) (body_of code ns), one, len)

-- ---- what the writer answers

-- it answers with a length where the code is known and the record fits
pub recording_made : (code : ℕ) (ns out : List ℕ) (n : ℕ) → recording code ns out ≡ answers n
    → (known code ≡ true) × (length (record_of code ns) ≤ length out) × (n ≡ length (record_of code ns))
unfolding recording fitting
recording_made code ns out n = by_code (known code) refl
  where
    Made : Type 0
    Made = (known code ≡ true) × (length (record_of code ns) ≤ length out) × (n ≡ length (record_of code ns))

    by_size : (t : Bool) → ltb (length out) (length (record_of code ns)) ≡ t → known code ≡ true
        → cond t (refused 13) (answers (length (record_of code ns))) ≡ answers n → Made
    by_size true q k e = clash (cc)
    by_size false q k e = (k, ltb-false (length out) (length (record_of code ns)) q, cc)

    by_code : (t : Bool) → known code ≡ t → cond t (fitting (record_of code ns) out) (refused 1) ≡ answers n → Made
    by_code true k e = by_size (ltb (length out) (length (record_of code ns))) refl k e
    by_code false k e = clash (cc)

-- and then what it leaves in the buffer is the record, before what was there
pub recorded_made : (code : ℕ) (ns out : List ℕ) → known code ≡ true → length (record_of code ns) ≤ length out
    → recorded code ns out ≡ record_of code ns ++ drop (length (record_of code ns)) out
unfolding recorded
recorded_made code ns out k room = simp k (put_fits (record_of code ns) out room)

-- a length that it answers with is at most that of the longest record
pub recording_length : (code : ℕ) (ns out : List ℕ) → AtMost largest ns → length_in (recording code ns out) ≤ longest_record
unfolding recording fitting
recording_length code ns out are = by_code (known code) refl
  where
    by_size : (t : Bool) → known code ≡ true → length_in (cond t (refused 13) (answers (length (record_of code ns)))) ≤ longest_record
    by_size true k = omega arith
    by_size false k = record_length code ns k are

    by_code : (t : Bool) → known code ≡ t → length_in (cond t (fitting (record_of code ns) out) (refused 1)) ≤ longest_record
    by_code true k = by_size (ltb (length out) (length (record_of code ns))) k
    by_code false k = omega arith
