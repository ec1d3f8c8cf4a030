-- Fronts of a text: what they have of its key text and its capture.
use Rattle.std.proofs.Common.{◌≡◌, ◌≢◌, ℕ, ◌<◌, ◌≤◌, Bool, true, false, List, [], ◌∷◌, ◌++◌, length, take, refl, sym, ap, ◌∙◌, subst, append_assoc, length-append, arith, inl, inr}
use Rattle.std.specs.Prelude.{◌==◌, if◌then◌else◌, nat_lt}
use Rattle.std.proofs.lemmas.Bool.{cases_lt}
use Rattle.std.proofs.lemmas.Bool.Decides.{nat_tests}
use Rattle.std.proofs.lemmas.List.{take-append-le, take_all}
use Rattle.capture_packets.specs.Captures.{begins_file}
use Rattle.text_lines.specs.Texts.{without_return}
use Rattle.audit_text.specs.Parting.{IsParted, IsUnparted, begins, capture_behind, key_text}
use Rattle.audit_text.proofs.FedLines.{ByLines, behind-line, by-lines, has-line, is-empty, is-last, none-behind}
use Rattle.audit_text.proofs.KeyText.{keys-before, no-shorter, parted, parted-alone}
use Rattle.audit_text.proofs.ShortLines.{short-other}

-- ---- where a capture begins

-- fewer octets than four are no magic number
few-none : (xs : List ℕ) → length xs < 4 → begins xs ≡ false
few-none xs few =
    let all : take 4 xs ≡ xs = take_all 4 xs (omega (arith, few)) in
    let test : nat_lt (length xs) 4 ≡ true = grind (arith, nat_tests) in
    ap begins_file all ∙ rw test refl

-- where a text begins with no capture, a front of it does not
pub none-front : (x y : List ℕ) → begins (x ++ y) ≡ false → begins x ≡ false
none-front x y none = elim (cases_lt (length x) 4) [
  | inl few ↦ few-none x few
  | inr many ↦ sym (ap begins_file (take-append-le 4 x y many)) ∙ none
]

returned-less : (xs : List ℕ) → length (without_return xs) ≤ length xs
returned-less [] = omega arith
returned-less (x ∷ []) = by (x == 13)
  where
    by : (b : Bool) → length (if b then [] else x ∷ []) ≤ 1
    by true = omega arith
    by false = omega arith
returned-less (x ∷ y ∷ more) = let l = returned-less (y ∷ more) in omega (arith, l)

-- octets that tell neither a capture nor the end of a line have none
few-by : (xs : List ℕ) → ByLines xs → length xs < 4 → capture_behind xs ≡ []
few-by _ is-empty few = refl
few-by _ (is-last octets some none) few = (none-behind octets none (few-none octets few)).1
few-by _ (has-line octets later none rest) few =
    let l = length-append octets (10 ∷ later) in
    let text = octets ++ 10 ∷ later in
    (behind-line octets later none (few-none text few)).1
    ∙ ap (λ (b : Bool). if b then later else capture_behind later)
    (short-other (without_return octets) (let w = returned-less octets in omega (arith, l, few, w)))
    ∙ few-by later rest (omega (arith, l, few))

pub unparted-none : (xs : List ℕ) → IsUnparted xs → capture_behind xs ≡ []
unparted-none xs (inl few) = few-by xs (by-lines xs) few
unparted-none xs (inr (is, inside)) = (none-behind xs inside.none is).1

-- ---- a text that is cut within its capture

-- the text whose capture this is is parted before it
at-capture : (keys capture : List ℕ) → capture_behind (keys ++ capture) ≡ capture → IsParted (keys ++ capture) keys capture
at-capture keys capture is =
    let text = keys ++ capture in
    subst (λ (k : List ℕ). IsParted text k capture) (keys-before text keys capture refl is)
    (subst (λ (c : List ℕ). IsParted text (key_text text) c) is (parted text))

-- behind the same key text stands what is left of it
pub cut-to : (keys f c : List ℕ) → 4 ≤ length f → capture_behind (keys ++ (f ++ c)) ≡ f ++ c → capture_behind (keys ++ f) ≡ f
cut-to keys f c many is =
    let p = at-capture keys (f ++ c) is in
    let some : f ++ c ≢ [] = λ none. let l = ap length none in let m = length-append f c in omega (arith, l, m, many) in
    let e = p.ends some in
    sym (parted-alone (keys ++ f) keys f (record {
      whole = refl;
      none = λ front rest same some at.
          let n = p.none front rest same some at in
          (none-front (rest ++ f) c (ap begins (append_assoc rest f c) ∙ n.0), n.1);
      ends = λ _. (
        e.0,
        elim e.1 [
          | inl it ↦ inl (sym (ap begins_file (take-append-le 4 f c many)) ∙ it)
          | inr tells ↦ inr tells
        ],
      );
    })).1

-- no more than that stands behind it
pub cut-few : (keys f c : List ℕ) → capture_behind (keys ++ (f ++ c)) ≡ f ++ c
    → length (capture_behind (keys ++ f)) ≤ length f
cut-few keys f c is =
    let p = at-capture keys (f ++ c) is in
    let q = parted (keys ++ f) in
    let whole = ap length q.whole in
    let l = length-append keys f in
    let m = length-append (key_text (keys ++ f)) (capture_behind (keys ++ f)) in
    elim (cases_lt (length (key_text (keys ++ f))) (length keys)) [
      | inl less ↦ absurd (no-shorter (keys ++ f) (key_text (keys ++ f)) (capture_behind (keys ++ f)) keys f q
          (λ front rest same some at.
          let n = p.none front rest same some at in
          (none-front (rest ++ f) c (ap begins (append_assoc rest f c) ∙ n.0), n.1)) refl less)
      | inr most ↦ omega (arith, whole, l, m, most)
    ]
