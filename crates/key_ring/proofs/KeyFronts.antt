-- A front of a text that is whole lines of its key text.
use Rattle.std.proofs.Common.{◌≡◌, ℕ, ◌≤◌, true, false, List, [], ◌∷◌, ◌++◌, length, take, drop, refl, sym, ap, ◌∙◌, append_assoc, length-append, arith, inl, inr}
use Rattle.std.specs.Prelude.{◌⊎◌, if◌then◌else◌, Bool}
use Rattle.std.proofs.lemmas.Bool.{cases_lt}
use Rattle.std.proofs.lemmas.List.{append_cancel_left, take-append-drop, take-append-le, take_all}
use Rattle.capture_packets.specs.Captures.{begins_file}
use Rattle.text_lines.specs.Texts.{without_return}
use Rattle.audit_text.specs.Parting.{begins, capture_behind, key_text, says_capture, tells_capture}
use Rattle.audit_text.proofs.Public.{HasNoFeed, behind-line, fronts, here, keys-before, no-line, none-front, parted}

-- ---- what stands behind octets within a limit, and what stands behind them
pub rest-is : (limit : ℕ) (text given behind rest : List ℕ) → take limit text ≡ given ++ behind
    → text ≡ given ++ rest → rest ≡ behind ++ drop limit text
rest-is limit text given behind rest visible whole =
    append_cancel_left given rest (behind ++ drop limit text)
    (sym whole ∙ sym (take-append-drop limit text)
    ∙ ap (λ (l : List ℕ). l ++ drop limit text) visible ∙ append_assoc given behind (drop limit text))

-- no capture begins there, where four octets were looked at or the text ends
pub none-here : (limit : ℕ) (text given behind rest : List ℕ) → take limit text ≡ given ++ behind
    → text ≡ given ++ rest → begins behind ≡ false → (4 ≤ length behind) ⊎ (length text ≤ limit)
    → begins rest ≡ false
none-here limit text given behind rest visible whole none (inl many) =
    ap (λ (l : List ℕ). begins_file (take 4 l)) (rest-is limit text given behind rest visible whole)
    ∙ ap begins_file (take-append-le 4 behind (drop limit text) many) ∙ none
none-here limit text given behind rest visible whole none (inr ended) =
    let same : rest ≡ behind =
    append_cancel_left given rest behind (sym whole ∙ sym (take_all limit text ended) ∙ visible) in
    ap begins same ∙ none

-- a capture begins where the text goes on, too
begun-by : (x y : List ℕ) (b : Bool) → begins (x ++ y) ≡ b → begins x ≡ true → b ≡ true
begun-by x y true all is = refl
begun-by x y false all is = absurd (cc (sym (none-front x y all) ∙ is))

pub goes-on : (behind more : List ℕ) → begins behind ≡ true
    → (key_text (behind ++ more) ≡ []) × (capture_behind (behind ++ more) ≡ behind ++ more)
goes-on behind more is = here (behind ++ more) (begun-by behind more (begins (behind ++ more)) refl is)

-- ---- within a line

-- what a key text begins with, behind octets of a line
pub record KeysOn (front later : List ℕ) : Type 0 where
  pub more : List ℕ
  pub parts : key_text (front ++ later) ≡ front ++ more

pub keys-in-line : (front later : List ℕ) → HasNoFeed front → begins (front ++ later) ≡ false → KeysOn front later
keys-in-line front later none is =
    let text = front ++ later in
    let p = parted text in
    elim (cases_lt (length (key_text text)) (length front)) [
      | inl less ↦
          let g = fronts (key_text text) (capture_behind text) front later (sym p.whole) (omega (arith, less)) in
          let e = p.ends (λ empty.
          let a = ap length g.parts in let b = length-append (key_text text) g.more in
          let c = ap length (sym g.rest ∙ empty) in let d = length-append g.more later in
          omega (arith, a, b, c, d, less)) in
          let keys : key_text text ≡ [] = no-line front (key_text text) g.more none g.parts e.0 in
          elim e.1 [
            | inl begun ↦
                let all : capture_behind text ≡ text =
                sym (p.whole ∙ ap (λ (k : List ℕ). k ++ capture_behind text) keys) in
                absurd (cc (sym begun ∙ ap begins all ∙ is))
            | inr tells ↦
                let none : tells_capture (key_text text) ≡ false = ap tells_capture keys in
                absurd (cc (sym tells ∙ none))
          ]
      | inr most ↦
          let g = fronts front later (key_text text) (capture_behind text) p.whole most in
          record { more = g.more; parts = g.parts }
    ]

-- ---- whole lines

-- whole lines with none of which a capture begins where the text goes on with these octets, nor behind it
pub record IsKeyFront (given rest : List ℕ) : Type 0 where
  pub capture : (x y : List ℕ) → rest ≡ x ++ y → capture_behind (given ++ x) ≡ capture_behind x

pub front-none : (rest : List ℕ) → IsKeyFront [] rest
front-none rest = record { capture = λ x y is. refl }

-- a line more
pub front-more : (given rest octets later : List ℕ) → IsKeyFront given rest → HasNoFeed octets
    → begins rest ≡ false → rest ≡ octets ++ 10 ∷ later → says_capture (without_return octets) ≡ false
    → IsKeyFront (given ++ (octets ++ 10 ∷ [])) later
front-more given rest octets later front none is parts says = record {
  capture = λ x y goes.
      let line : (given ++ (octets ++ 10 ∷ [])) ++ x ≡ given ++ (octets ++ 10 ∷ x) =
      append_assoc given (octets ++ 10 ∷ []) x
      ∙ ap (λ (l : List ℕ). given ++ l) (append_assoc octets (10 ∷ []) x) in
      let all : rest ≡ (octets ++ 10 ∷ x) ++ y =
      parts ∙ ap (λ (l : List ℕ). octets ++ 10 ∷ l) goes ∙ sym (append_assoc octets (10 ∷ x) y) in
      ap capture_behind line ∙ front.capture (octets ++ 10 ∷ x) y all
      ∙ (behind-line octets x none (none-front (octets ++ 10 ∷ x) y (sym (ap begins all) ∙ is))).1
      ∙ ap (λ (b : Bool). if b then x else capture_behind x) says;
}

-- the key text goes on behind it
pub front-keys : (given rest x y : List ℕ) → IsKeyFront given rest → rest ≡ x ++ y
    → key_text (given ++ x) ≡ given ++ key_text x
front-keys given rest x y front is =
    let p = parted x in
    keys-before (given ++ x) (given ++ key_text x) (capture_behind x)
    (ap (λ (l : List ℕ). given ++ l) p.whole ∙ sym (append_assoc given (key_text x) (capture_behind x)))
    (front.capture x y is)
