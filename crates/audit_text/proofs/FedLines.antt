-- A text goes on line by line: where its capture begins, by its first line.
use Rattle.std.proofs.Common.{◌≡◌, ◌≢◌, ℕ, Bool, true, false, List, [], ◌∷◌, ◌++◌, refl, sym, ap, ◌∙◌, subst, inl, inr}
use Rattle.std.specs.Prelude.{◌==◌, ◌||◌, if◌then◌else◌}
use Rattle.std.specs.List.{concat, list_any}
use Rattle.std.proofs.lemmas.Bool.{cases_eq}
use Rattle.std.proofs.lemmas.List.{append-nil}
use Rattle.std.proofs.lemmas.List.Elements.{All-cons, All-nil}
use Rattle.text_lines.specs.Texts.{without_return}
use Rattle.audit_text.specs.Parting.{begins, behind_keys, capture_behind, fed_lines, in_front, key_text, keys_of, says_capture, tells_capture}
use Rattle.audit_text.proofs.Lines.{HasNoFeed, first-other, line-first, others}

-- ---- a text is empty, or a last line, or goes on behind a line

pub data ByLines : List ℕ → Type 0 where
  is-empty : ByLines []
  is-last : (octets : List ℕ) → octets ≢ [] → HasNoFeed octets → ByLines octets
  has-line : (octets later : List ℕ) → HasNoFeed octets → ByLines later → ByLines (octets ++ 10 ∷ later)

in-front : (octet : ℕ) (octets : List ℕ) → octet ≢ 10 → ByLines octets → ByLines (octet ∷ octets)
in-front octet _ other is-empty =
    is-last (octet ∷ []) (λ none. cc none) (All-cons (λ (o : ℕ). o ≢ 10) octet [] other (All-nil (λ (o : ℕ). o ≢ 10)))
in-front octet _ other (is-last octets some none) =
    is-last (octet ∷ octets) (λ none. cc none) (All-cons (λ (o : ℕ). o ≢ 10) octet octets other none)
in-front octet _ other (has-line octets later none rest) =
    has-line (octet ∷ octets) later (All-cons (λ (o : ℕ). o ≢ 10) octet octets other none) rest

pub by-lines : (text : List ℕ) → ByLines text
by-lines [] = is-empty
by-lines (octet ∷ octets) = elim (cases_eq octet 10) [
  | inl feed ↦
      subst (λ (o : ℕ). ByLines (o ∷ octets)) (sym feed) (has-line [] octets (All-nil (λ (o : ℕ). o ≢ 10)) (by-lines octets))
  | inr other ↦ in-front octet octets other (by-lines octets)
]

-- ---- its lines with their line feeds

fed-line : (octets later : List ℕ) → HasNoFeed octets
    → fed_lines (octets ++ 10 ∷ later) ≡ (octets ++ 10 ∷ []) ∷ fed_lines later
fed-line [] later none = refl
fed-line (o ∷ octets) later none =
    let on = octets ++ 10 ∷ later in
    ap (λ (b : Bool). if b then (o ∷ []) ∷ fed_lines on else in_front o (fed_lines on)) (first-other o octets none)
    ∙ ap (in_front o) (fed-line octets later (others o octets none))

fed-last : (o : ℕ) (octets : List ℕ) → HasNoFeed (o ∷ octets) → fed_lines (o ∷ octets) ≡ (o ∷ octets) ∷ []
fed-last o [] none = ap (λ (b : Bool). if b then (o ∷ []) ∷ [] else in_front o []) (first-other o [] none)
fed-last o (p ∷ octets) none =
    let on = p ∷ octets in
    ap (λ (b : Bool). if b then (o ∷ []) ∷ fed_lines on else in_front o (fed_lines on)) (first-other o on none)
    ∙ ap (in_front o) (fed-last p octets (others o on none))

front-all : (o : ℕ) (lines : List (List ℕ)) → concat (in_front o lines) ≡ o ∷ concat lines
front-all o [] = refl
front-all o (line ∷ lines) = refl

either-all : (b : Bool) (o : ℕ) (lines : List (List ℕ)) → concat (if b then (o ∷ []) ∷ lines else in_front o lines) ≡ o ∷ concat lines
either-all true o lines = refl
either-all false o lines = front-all o lines

fed-all : (text : List ℕ) → concat (fed_lines text) ≡ text
fed-all [] = refl
fed-all (o ∷ octets) = either-all (o == 10) o (fed_lines octets) ∙ ap (λ (l : List ℕ). o ∷ l) (fed-all octets)

-- ---- where a capture begins

keys-at : (lines : List (List ℕ)) → begins (concat lines) ≡ true → (keys_of lines ≡ []) × (behind_keys lines ≡ concat lines)
keys-at [] is = (refl, refl)
keys-at (line ∷ lines) is = (
  ap (λ (b : Bool). if b then [] else line ++ (if tells_capture line then [] else keys_of lines)) is,
  ap (λ (b : Bool). if b then concat (line ∷ lines) else if tells_capture line then concat lines else behind_keys lines) is,
)

pub here : (text : List ℕ) → begins text ≡ true → (key_text text ≡ []) × (capture_behind text ≡ text)
here text is =
    let p = keys-at (fed_lines text) (ap begins (fed-all text) ∙ is) in
    (p.0, p.1 ∙ fed-all text)

-- ---- behind a line

pub tells-line : (octets later : List ℕ) → HasNoFeed octets
    → tells_capture (octets ++ 10 ∷ later) ≡ (says_capture (without_return octets) || tells_capture later)
tells-line octets later none = ap (list_any says_capture) (line-first octets later none)

or-none : (b : Bool) → (b || false) ≡ b
or-none true = refl
or-none false = refl

tells-alone : (octets : List ℕ) → HasNoFeed octets → tells_capture (octets ++ 10 ∷ []) ≡ says_capture (without_return octets)
tells-alone octets none = tells-line octets [] none ∙ or-none (says_capture (without_return octets))

keys-not : (line : List ℕ) (lines : List (List ℕ)) → begins (concat (line ∷ lines)) ≡ false
    → (keys_of (line ∷ lines) ≡ line ++ (if tells_capture line then [] else keys_of lines))
    × (behind_keys (line ∷ lines) ≡ (if tells_capture line then concat lines else behind_keys lines))
keys-not line lines is = (
  ap (λ (b : Bool). if b then [] else line ++ (if tells_capture line then [] else keys_of lines)) is,
  ap (λ (b : Bool). if b then concat (line ∷ lines) else if tells_capture line then concat lines else behind_keys lines) is,
)

pub behind-line : (octets later : List ℕ) → HasNoFeed octets → begins (octets ++ 10 ∷ later) ≡ false
    → (key_text (octets ++ 10 ∷ later)
    ≡ (octets ++ 10 ∷ []) ++ (if says_capture (without_return octets) then [] else key_text later))
    × (capture_behind (octets ++ 10 ∷ later)
    ≡ (if says_capture (without_return octets) then later else capture_behind later))
behind-line octets later none is =
    let fed = fed-line octets later none in
    let first = octets ++ 10 ∷ [] in
    let all : concat (first ∷ fed_lines later) ≡ octets ++ 10 ∷ later =
    ap concat (sym fed) ∙ fed-all (octets ++ 10 ∷ later) in
    let p = keys-not first (fed_lines later) (ap begins all ∙ is) in
    let tells = tells-alone octets none in (
      ap keys_of fed ∙ p.0 ∙ ap (λ (b : Bool). first ++ (if b then [] else key_text later)) tells,
      ap behind_keys fed ∙ p.1
          ∙ ap (λ (b : Bool). if b then concat (fed_lines later) else capture_behind later) tells
          ∙ ap (λ (l : List ℕ). if says_capture (without_return octets) then l else capture_behind later) (fed-all later),
    )

-- ---- a last line

last-keys : (b : Bool) (line : List ℕ) → line ++ (if b then [] else []) ≡ line
last-keys true line = append-nil line
last-keys false line = append-nil line

last-behind : (b : Bool) (none : List ℕ) → (if b then none else none) ≡ none
last-behind true none = refl
last-behind false none = refl

pub none-behind : (octets : List ℕ) → HasNoFeed octets → begins octets ≡ false
    → (key_text octets ≡ octets) × (capture_behind octets ≡ [])
none-behind [] none is = (refl, refl)
none-behind (o ∷ octets) none is =
    let line = o ∷ octets in
    let fed = fed-last o octets none in
    let p = keys-not line [] (ap begins (append-nil line) ∙ is) in (
      ap keys_of fed ∙ p.0 ∙ last-keys (tells_capture line) line,
      ap behind_keys fed ∙ p.1 ∙ last-behind (tells_capture line) [],
    )
