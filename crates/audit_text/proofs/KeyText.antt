-- A text is parted into its key text and its capture in one way.
use Rattle.std.proofs.Common.{◌≡◌, ◌≢◌, ℕ, ◌<◌, ◌≤◌, Bool, true, false, List, [], ◌∷◌, ◌++◌, length, refl, sym, ap, ◌∙◌, subst, append_assoc, length-append, arith, inl, inr}
use Rattle.std.specs.Prelude.{◌==◌, ◌||◌, ◌⊎◌, if◌then◌else◌}
use Rattle.std.proofs.lemmas.Bool.{cases_lt}
use Rattle.std.proofs.lemmas.List.{append-nil, append_cancel_right}
use Rattle.octet_supply.proofs.Public.{no-octets}
use Rattle.text_lines.specs.Texts.{open_line, without_return}
use Rattle.audit_text.specs.Parting.{AreLines, IsParted, begins, capture_behind, key_text, says_capture, tells_capture}
use Rattle.audit_text.proofs.Lines.{HasNoFeed, first-other, open-at, others, pushed}
use Rattle.audit_text.proofs.FedLines.{ByLines, behind-line, by-lines, has-line, here, is-empty, is-last, none-behind, tells-line}

-- ---- whole lines at the front

-- whole lines in front of a text that begins with a line are none, or that line and others
pub record IsBehind (octets keys front rest : List ℕ) : Type 0 where
  pub lines : List ℕ
  pub parts : front ≡ octets ++ 10 ∷ lines
  pub whole : AreLines lines
  pub later : keys ≡ lines ++ rest

-- a line that is begun ends in what follows
line-from : (begun octets keys front rest : List ℕ) → HasNoFeed octets → octets ++ 10 ∷ keys ≡ front ++ rest
    → open_line begun front ≡ [] → ((begun ≡ []) × (front ≡ [])) ⊎ IsBehind octets keys front rest
line-from begun octets keys [] rest none same at = inl (at, refl)
line-from begun [] keys (x ∷ front) rest none same at =
    let first : 10 ≡ x = cc same in
    inr (record {
      lines = front;
      parts = ap (λ (o : ℕ). o ∷ front) (sym first);
      whole = ap (λ (o : ℕ). if o == 10 then open_line [] front else open_line (begun ++ o ∷ []) front) first ∙ at;
      later = cc same;
    })
line-from begun (o ∷ octets) keys (x ∷ front) rest none same at =
    let first : o ≡ x = cc same in
    let later : octets ++ 10 ∷ keys ≡ front ++ rest = cc same in
    let on : open_line (begun ++ o ∷ []) front ≡ [] =
    sym (ap (λ (b : Bool). if b then open_line [] front else open_line (begun ++ o ∷ []) front) (first-other o octets none))
    ∙ ap (λ (p : ℕ). if p == 10 then open_line [] front else open_line (begun ++ p ∷ []) front) first ∙ at in
    elim (line-from (begun ++ o ∷ []) octets keys front rest (others o octets none) later on) [
      | inl empty ↦ absurd (pushed begun o empty.0)
      | inr it ↦ inr (record {
        lines = it.lines;
        parts = ap (λ (p : ℕ). p ∷ front) (sym first) ∙ ap (λ (l : List ℕ). o ∷ l) it.parts;
        whole = it.whole;
        later = it.later;
      })
    ]

-- octets without a line feed begin with no whole line
none-from : (begun octets front rest : List ℕ) → HasNoFeed octets → octets ≡ front ++ rest
    → open_line begun front ≡ [] → (begun ≡ []) × (front ≡ [])
none-from begun octets [] rest none same at = (at, refl)
none-from begun [] (x ∷ front) rest none same at = absurd (cc same)
none-from begun (o ∷ octets) (x ∷ front) rest none same at =
    let first : o ≡ x = cc same in
    let later : octets ≡ front ++ rest = cc same in
    let on : open_line (begun ++ o ∷ []) front ≡ [] =
    sym (ap (λ (b : Bool). if b then open_line [] front else open_line (begun ++ o ∷ []) front) (first-other o octets none))
    ∙ ap (λ (p : ℕ). if p == 10 then open_line [] front else open_line (begun ++ p ∷ []) front) first ∙ at in
    absurd (pushed begun o (none-from (begun ++ o ∷ []) octets front rest (others o octets none) later on).0)

pub no-line : (octets front rest : List ℕ) → HasNoFeed octets → octets ≡ front ++ rest → AreLines front → front ≡ []
no-line octets front rest none same at = (none-from [] octets front rest none same at).1

-- ---- the parts

none-left : (front rest : List ℕ) → [] ≡ front ++ rest → rest ≡ []
none-left front rest none =
    no-octets rest (let l = ap length none in let m = length-append front rest in omega (arith, l, m))

no-keys : (text : List ℕ) → (text ≢ [] → begins text ≡ true) → IsParted text [] text
no-keys text is = record {
  whole = refl;
  none = λ front rest same some at. absurd (some (none-left front rest same));
  ends = λ some. (refl, inl (is some));
}

-- no capture begins with what follows
before-none : (text front rest capture : List ℕ) → front ≡ [] → text ≡ front ++ rest → begins (text ++ capture) ≡ false
    → (begins (rest ++ capture) ≡ false) × (tells_capture front ≡ false)
before-none text front rest capture empty same is = (
  ap (λ (l : List ℕ). begins ((l ++ rest) ++ capture)) (sym empty) ∙ ap (λ (l : List ℕ). begins (l ++ capture)) (sym same) ∙ is,
  ap tells_capture empty,
)

no-capture : (octets : List ℕ) → HasNoFeed octets → begins octets ≡ false → IsParted octets octets []
no-capture octets none is = record {
  whole = sym (append-nil octets);
  none = λ front rest same some at.
      before-none octets front rest [] (no-line octets front rest none same at) same (ap begins (append-nil octets) ∙ is);
  ends = λ some. absurd (some refl);
}

-- whether a capture is told in what a line begins
tells-on : (octets later : List ℕ) (b c : Bool) → HasNoFeed octets → says_capture (without_return octets) ≡ b
    → tells_capture later ≡ c → tells_capture (octets ++ 10 ∷ later) ≡ (b || c)
tells-on octets later b c none says tells =
    tells-line octets later none ∙ ap (λ (s : Bool). s || tells_capture later) says ∙ ap (λ (t : Bool). b || t) tells

-- the first line is of the key text
one-line : (octets later keys capture : List ℕ) → HasNoFeed octets → begins (octets ++ 10 ∷ later) ≡ false
    → says_capture (without_return octets) ≡ false → IsParted later keys capture
    → IsParted (octets ++ 10 ∷ later) (octets ++ 10 ∷ keys) capture
one-line octets later keys capture none is says p =
    let all : octets ++ 10 ∷ later ≡ (octets ++ 10 ∷ keys) ++ capture =
    ap (λ (l : List ℕ). octets ++ 10 ∷ l) p.whole ∙ sym (append_assoc octets (10 ∷ keys) capture) in
    record {
      whole = all;
      none = λ front rest same some at. elim (line-from [] octets keys front rest none same at) [
        | inl empty ↦ before-none (octets ++ 10 ∷ keys) front rest capture empty.1 same (sym (ap begins all) ∙ is)
        | inr it ↦
            let q = p.none it.lines rest it.later some it.whole in
            (q.0, ap tells_capture it.parts ∙ tells-on octets it.lines false false none says q.1)
      ];
      ends = λ some.
          let q = p.ends some in (
            open-at [] octets keys none ∙ q.0,
            elim q.1 [
              | inl it ↦ inl it
              | inr tells ↦ inr (tells-on octets keys false true none says tells)
            ],
          );
    }

-- and is its last
capture-line : (octets later : List ℕ) → HasNoFeed octets → begins (octets ++ 10 ∷ later) ≡ false
    → says_capture (without_return octets) ≡ true
    → IsParted (octets ++ 10 ∷ later) (octets ++ 10 ∷ []) later
capture-line octets later none is says =
    let all : octets ++ 10 ∷ later ≡ (octets ++ 10 ∷ []) ++ later = sym (append_assoc octets (10 ∷ []) later) in
    record {
      whole = all;
      none = λ front rest same some at. elim (line-from [] octets [] front rest none same at) [
        | inl empty ↦ before-none (octets ++ 10 ∷ []) front rest later empty.1 same (sym (ap begins all) ∙ is)
        | inr it ↦ absurd (some (none-left it.lines rest it.later))
      ];
      ends = λ some. (open-at [] octets [] none, inr (tells-on octets [] true false none says refl));
    }

-- these are the parts
pub as-parted : (text keys capture : List ℕ) → key_text text ≡ keys → capture_behind text ≡ capture
    → IsParted text keys capture → IsParted text (key_text text) (capture_behind text)
as-parted text keys capture same also p =
    subst (λ (k : List ℕ). IsParted text k (capture_behind text)) (sym same)
    (subst (λ (c : List ℕ). IsParted text keys c) (sym also) p)

parted-line : (b s : Bool) (octets later : List ℕ) → HasNoFeed octets → begins (octets ++ 10 ∷ later) ≡ b
    → says_capture (without_return octets) ≡ s → IsParted later (key_text later) (capture_behind later)
    → IsParted (octets ++ 10 ∷ later) (key_text (octets ++ 10 ∷ later)) (capture_behind (octets ++ 10 ∷ later))
parted-line true s octets later none is says p =
    let text = octets ++ 10 ∷ later in
    let w = here text is in as-parted text [] text w.0 w.1 (no-keys text (λ some. is))
parted-line false true octets later none is says p =
    let text = octets ++ 10 ∷ later in
    let w = behind-line octets later none is in
    as-parted text (octets ++ 10 ∷ []) later
    (w.0 ∙ ap (λ (b : Bool). (octets ++ 10 ∷ []) ++ (if b then [] else key_text later)) says ∙ append-nil (octets ++ 10 ∷ []))
    (w.1 ∙ ap (λ (b : Bool). if b then later else capture_behind later) says)
    (capture-line octets later none is says)
parted-line false false octets later none is says p =
    let text = octets ++ 10 ∷ later in
    let w = behind-line octets later none is in
    as-parted text (octets ++ 10 ∷ key_text later) (capture_behind later)
    (w.0 ∙ ap (λ (b : Bool). (octets ++ 10 ∷ []) ++ (if b then [] else key_text later)) says
    ∙ append_assoc octets (10 ∷ []) (key_text later))
    (w.1 ∙ ap (λ (b : Bool). if b then later else capture_behind later) says)
    (one-line octets later (key_text later) (capture_behind later) none is says p)

parted-last : (b : Bool) (octets : List ℕ) → HasNoFeed octets → begins octets ≡ b
    → IsParted octets (key_text octets) (capture_behind octets)
parted-last true octets none is =
    let w = here octets is in as-parted octets [] octets w.0 w.1 (no-keys octets (λ some. is))
parted-last false octets none is =
    let w = none-behind octets none is in as-parted octets octets [] w.0 w.1 (no-capture octets none is)

parted-by : (text : List ℕ) → ByLines text → IsParted text (key_text text) (capture_behind text)
parted-by _ is-empty = no-keys [] (λ some. absurd (some refl))
parted-by _ (is-last octets some none) = parted-last (begins octets) octets none refl
parted-by _ (has-line octets later none rest) =
    parted-line (begins (octets ++ 10 ∷ later)) (says_capture (without_return octets)) octets later none refl refl
    (parted-by later rest)

pub parted : (text : List ℕ) → IsParted text (key_text text) (capture_behind text)
parted text = parted-by text (by-lines text)

-- ---- in one way

-- of two fronts of a text the longer begins with the shorter
pub record GoesOn (front whole left right : List ℕ) : Type 0 where
  pub more : List ℕ
  pub parts : whole ≡ front ++ more
  pub rest : left ≡ more ++ right

pub fronts : (front left whole right : List ℕ) → front ++ left ≡ whole ++ right → length front ≤ length whole
    → GoesOn front whole left right
fronts [] left whole right same less = record { more = whole; parts = refl; rest = same }
fronts (x ∷ front) left [] right same less = absurd (omega (arith, less))
fronts (x ∷ front) left (y ∷ whole) right same less =
    let first : y ≡ x = sym (cc same) in
    let g = fronts front left whole right (cc same) (omega (arith, less)) in
    record {
      more = g.more;
      parts = ap (λ (o : ℕ). o ∷ whole) first ∙ ap (λ (l : List ℕ). x ∷ l) g.parts;
      rest = g.rest;
    }

-- the keys of one parting go on behind those of no other
pub no-shorter : (text keys capture also behind : List ℕ) → IsParted text keys capture
    → ((front rest : List ℕ) → also ≡ front ++ rest → rest ≢ [] → AreLines front
    → (begins (rest ++ behind) ≡ false) × (tells_capture front ≡ false))
    → text ≡ also ++ behind → length keys < length also → ⊥
no-shorter text keys capture also behind p none whole less =
    let g = fronts keys capture also behind (sym p.whole ∙ whole) (omega (arith, less)) in
    let some : g.more ≢ [] = λ empty.
    let a = ap length g.parts in let b = ap length empty in let m = length-append keys g.more in
    omega (arith, a, b, m, less) in
    let e = p.ends (λ empty.
    let a = ap length (sym g.rest ∙ empty) in let m = length-append g.more behind in
    some (no-octets g.more (omega (arith, a, m)))) in
    let n = none keys g.more g.parts some e.0 in
    elim e.1 [
      | inl is ↦ absurd (cc (sym is ∙ ap begins g.rest ∙ n.0))
      | inr tells ↦ absurd (cc (sym tells ∙ n.1))
    ]

pub alone : (text keys capture also behind : List ℕ) → IsParted text keys capture → IsParted text also behind
    → (keys ≡ also) × (capture ≡ behind)
alone text keys capture also behind p q = elim (cases_lt (length keys) (length also)) [
  | inl less ↦ absurd (no-shorter text keys capture also behind p q.none q.whole less)
  | inr most ↦ elim (cases_lt (length also) (length keys)) [
    | inl less ↦ absurd (no-shorter text also behind keys capture q p.none p.whole less)
    | inr least ↦
        let g = fronts keys capture also behind (sym p.whole ∙ q.whole) least in
        let none : g.more ≡ [] =
        no-octets g.more (let a = ap length g.parts in let m = length-append keys g.more in omega (arith, a, m, most)) in (
          sym (g.parts ∙ ap (λ (l : List ℕ). keys ++ l) none ∙ append-nil keys),
          g.rest ∙ ap (λ (l : List ℕ). l ++ behind) none,
        )
  ]
]

pub parted-alone : (text keys capture : List ℕ) → IsParted text keys capture
    → (keys ≡ key_text text) × (capture ≡ capture_behind text)
parted-alone text keys capture p = alone text keys capture (key_text text) (capture_behind text) p (parted text)

-- the key text is what stands before the capture
pub keys-before : (text front later : List ℕ) → text ≡ front ++ later → capture_behind text ≡ later → key_text text ≡ front
keys-before text front later whole capture =
    let p = parted text in
    append_cancel_right (key_text text) front later
    (ap (λ (l : List ℕ). key_text text ++ l) (sym capture) ∙ sym p.whole ∙ whole)
