-- What words tell by a table has these words, and each value of a table is told by its words.
use Rattle.std.proofs.Common.{◌≡◌, ℕ, ◌<◌, ◌≤◌, ◌^◌, Bool, true, List, [], ◌∷◌, refl, sym, ap, ◌∙◌, inl, inr, subst, arith}
use Rattle.std.specs.Prelude.{◌&&◌, ◌==◌, nat_le, nat_lt, Option, Some, None, decimal, map, codes, if◌then◌else◌, IsTrue}
use Rattle.std.specs.List.{list_all}
use Rattle.std.specs.Option.{option_map}
use Rattle.std.specs.Char.{is_ascii_lowercase}
use Rattle.std.proofs.lemmas.Bool.Decides.{nat_tests}
use Rattle.mka_station.specs.declared.verdict.DropReason.{DropReason}
use Rattle.mka_station.specs.declared.verdict.DropReason.TheVariants as reason
use Rattle.mka_station.specs.declared.verdict.Verdict.{Verdict}
use Rattle.mka_station.specs.declared.verdict.Verdict.TheVariants as verdict
use Rattle.mkpdu_codec.specs.declared.refusal.Refusal.TheVariants.{NotMka}
use Rattle.peer_lists.specs.declared.heard.PeerRefusal.TheVariants.{Echo}
use Rattle.sak_exchange.specs.declared.change.Cause.{Cause}
use Rattle.sak_exchange.specs.declared.change.Cause.TheVariants.{All}
use Rattle.sak_exchange.specs.declared.change.Why.{Why}
use Rattle.sak_exchange.specs.declared.change.Why.TheVariants.{NotListed}
use Rattle.lan_core.specs.declared.fact.Lack.{Lack}
use Rattle.lan_core.specs.declared.fact.Lack.TheVariants.{NoKey}
use Rattle.trace_text.specs.Words.{is_word}
use Rattle.transcript.specs.Words.{Word, text, number, spelled, Row, one, each, cause_text, causes, frame_text, secs, why_words, whys, reason_words, reasons, verdict_words, vouches, lack_words, lacks}
use Rattle.transcript.specs.Rendering.{AllFit}
use Rattle.transcript.specs.inside.Reading.{and_then, whole_of, ended, last_number, told_by, told_in, verdict_of}
use Rattle.transcript.specs.inside.Tables.{letters_of, bits_of, alone, counted, value_of, named}
use Rattle.transcript.proofs.Tests.{both, same-number, at-most}
use Rattle.transcript.proofs.Said.{same_some, steps, mapped, chosen, the_word, number_tells}
use Rattle.transcript.proofs.Told.{whole_said}

-- ---- a row has its words

-- the value of a row at a number
abbrev row_at : {A : Type 0} → ℕ → Row A → A
row_at n (one x) = x
row_at n (each f) = f n

-- a word alone, or a word and a number behind it
abbrev row_words : {A : Type 0} → (A → List Word) → ℕ → Row A → List Word
row_words listed n (one x) = text (letters_of (listed x)) ∷ []
row_words listed n (each f) =
    text (letters_of (listed (f 0))) ∷ number (bits_of (listed (f 0))) n ∷ []

abbrev is_small_row : {A : Type 0} → (A → List Word) → Row A → Bool
is_small_row listed row = list_all is_ascii_lowercase (letters_of (listed (row_at 0 row)))

-- each row has such words, of small letters
pub record IsTable {A : Type 0} (listed : A → List Word) (rows : List (Row A)) : Type 0 where
  pub formed : (n : ℕ) → map (λ row. listed (row_at n row)) rows ≡ map (row_words listed n) rows
  pub small : list_all (is_small_row listed) rows ≡ true

abbrev first : {A : Type 0} → A → List A → A
first d [] = d
first d (x ∷ xs) = x

abbrev rest : {A : Type 0} → List A → List A
rest [] = []
rest (x ∷ xs) = xs

abbrev pub AreSmall : List ℕ → Type 0
AreSmall letters = IsTrue (list_all is_ascii_lowercase letters)

head-formed : {A : Type 0} (listed : A → List Word) (row : Row A) (rows : List (Row A)) → IsTable listed (row ∷ rows)
    → (n : ℕ) → listed (row_at n row) ≡ row_words listed n row
head-formed listed row rows table n = ap (first []) (table.formed n)

head-small : {A : Type 0} (listed : A → List Word) (row : Row A) (rows : List (Row A)) → IsTable listed (row ∷ rows)
    → AreSmall (letters_of (listed (row_at 0 row)))
head-small listed row rows table = (both (is_small_row listed row) (list_all (is_small_row listed) rows) table.small).0

below-table : {A : Type 0} (listed : A → List Word) (row : Row A) (rows : List (Row A)) → IsTable listed (row ∷ rows) → IsTable listed rows
below-table listed row rows table = record {
  formed = λ n. ap rest (table.formed n);
  small = (both (is_small_row listed row) (list_all (is_small_row listed) rows) table.small).1;
}

-- ---- what words tell has them

-- a value has a word alone
abbrev IsAlone : {A : Type 0} → (A → List Word) → List ℕ → A → Type 0
IsAlone listed word x = (listed x ≡ text word ∷ []) × AreSmall word

alone-back : {A : Type 0} (listed : A → List Word) (rows : List (Row A)) → IsTable listed rows → (word : List ℕ) (x : A)
    → alone listed rows word ≡ Some x → IsAlone listed word x
alone-back listed [] table word x e = absurd cc
alone-back listed (one y ∷ rows) table word x e =
    elim (chosen (is_word word (letters_of (listed y))) (Some y) (alone listed rows word) x e) [
      | inl here ↦
          let w = the_word word (letters_of (listed y)) here.0 in
          subst (IsAlone listed word) (same_some y x here.1) (
            head-formed listed (one y) rows table 0 ∙ ap (λ letters. text letters ∷ []) (sym w),
            subst AreSmall (sym w) (head-small listed (one y) rows table),
          )
      | inr later ↦ alone-back listed rows (below-table listed (one y) rows table) word x later.1
    ]
alone-back listed (each f ∷ rows) table word x e = alone-back listed rows (below-table listed (each f) rows table) word x e

-- a value has a word, and a number behind it
record IsCounted {A : Type 0} (listed : A → List Word) (word : List ℕ) (n : ℕ) (x : A) : Type 0 where
  pub bits : ℕ
  pub words : listed x ≡ text word ∷ number bits n ∷ []
  pub fits : nat_lt n (2 ^ bits) ≡ true
  pub small : AreSmall word

counted-back : {A : Type 0} (listed : A → List Word) (rows : List (Row A)) → IsTable listed rows → (word : List ℕ) (n : ℕ) (x : A)
    → counted listed rows word n ≡ Some x → IsCounted listed word n x
counted-back listed [] table word n x e = absurd cc
counted-back listed (one y ∷ rows) table word n x e = counted-back listed rows (below-table listed (one y) rows table) word n x e
counted-back listed (each f ∷ rows) table word n x e =
    elim (chosen (is_word word (letters_of (listed (f 0)))) (if nat_lt n (2 ^ bits_of (listed (f 0))) then Some (f n) else None) (counted listed rows word n) x e) [
      | inl here ↦ elim (chosen (nat_lt n (2 ^ bits_of (listed (f 0)))) (Some (f n)) None x here.1) [
        | inl fits ↦
            let w = the_word word (letters_of (listed (f 0))) here.0 in
            subst (IsCounted listed word n) (same_some (f n) x fits.1)
            (record {
              bits = bits_of (listed (f 0));
              words = head-formed listed (each f) rows table n ∙ ap (λ letters. text letters ∷ number (bits_of (listed (f 0))) n ∷ []) (sym w);
              fits = fits.0;
              small = subst AreSmall (sym w) (head-small listed (each f) rows table);
            })
        | inr none ↦ absurd (cc none.1)
      ]
      | inr later ↦ counted-back listed rows (below-table listed (each f) rows table) word n x later.1
    ]

-- these words are spelled so, and fit
pub record Back (names : List (List ℕ)) (given : List Word) (words : List (List ℕ)) : Type 0 where
  pub spells : map (spelled names) given ≡ words
  pub fits : AllFit names given

none-behind : (words : List (List ℕ)) → ended (tt {0}) words ≡ Some (tt {0}) → words ≡ []
none-behind [] e = refl
none-behind (word ∷ words) e = absurd cc

number-back : (names : List (List ℕ)) (bits : ℕ) (word : List ℕ) (n : ℕ) → whole_of word ≡ Some n → nat_lt n (2 ^ bits) ≡ true
    → (decimal n ≡ word) × (n < 2 ^ bits)
number-back names bits word n e fits =
    let t = number_tells names bits word n (rw (e, fits) refl) in (t.spells, t.fits)

value-back : {A : Type 0} (names : List (List ℕ)) (listed : A → List Word) (rows : List (Row A)) → IsTable listed rows
    → (word : List ℕ) (others : List (List ℕ)) (o : Option ℕ) (x : A) → last_number others ≡ Some o
    → value_of listed rows word o ≡ Some x → Back names (listed x) (word ∷ others)
value-back names listed rows table word [] None x is e =
    let p = alone-back listed rows table word x e in
    record { spells = ap (map (spelled names)) p.0; fits = subst (AllFit names) (sym p.0) (p.1, tt) }
value-back names listed rows table word [] (Some n) x is e = absurd cc
value-back names listed rows table word (second ∷ others) None x is e =
    let p = steps (whole_of second) (λ n. and_then (ended (tt {0}) others) (λ end. Some (Some n))) None is in
    let q = steps (ended (tt {0}) others) (λ end. Some (Some p.0)) None p.2 in
    absurd (cc (q.2))
value-back names listed rows table word (second ∷ others) (Some n) x is e =
    let p = steps (whole_of second) (λ m. and_then (ended (tt {0}) others) (λ end. Some (Some m))) (Some n) is in
    let q = steps (ended (tt {0}) others) (λ end. Some (Some p.0)) (Some n) p.2 in
    let same : p.0 ≡ n = same_some p.0 n (same_some (Some p.0) (Some n) q.2) in
    let none = none-behind others q.1 in
    let c = counted-back listed rows table word n x e in
    let b = number-back names c.bits second n (p.1 ∙ ap (λ m. Some m) same) c.fits in
    record {
      spells = ap (map (spelled names)) c.words ∙ ap (λ w. word ∷ w ∷ []) b.0 ∙ ap (λ ws. word ∷ second ∷ ws) (sym none);
      fits = subst (AllFit names) (sym c.words) (c.small, (b.1, tt));
    }

pub told-back : {A : Type 0} (names : List (List ℕ)) (listed : A → List Word) (rows : List (Row A)) → IsTable listed rows
    → (words : List (List ℕ)) (x : A) → told_in listed rows words ≡ Some x → Back names (listed x) words
told-back names listed rows table [] x e = absurd cc
told-back names listed rows table (word ∷ others) x e =
    let p = steps (told_by word others) (λ t. value_of listed rows t.0 t.1) x e in
    let q = steps (last_number others) (λ n. Some (word, n)) p.0 p.1 in
    value-back names listed rows table word others q.0 x q.1
    (ap (λ (t : List ℕ × Option ℕ). value_of listed rows t.0 t.1) (same_some (word, q.0) p.0 q.2) ∙ p.2)

-- ---- each value is told by its words

-- the value that a word and a number of so many bits tell
abbrev standing : {A : Type 0} → (A → List Word) → List (Row A) → List ℕ → ℕ → ℕ → Option A
standing listed [] letters bits n = None
standing listed (one x ∷ rows) letters bits n = standing listed rows letters bits n
standing listed (each f ∷ rows) letters bits n =
    if is_word letters (letters_of (listed (f 0)))
    then (if (bits == bits_of (listed (f 0))) && nat_le (2 ^ bits) (2 ^ 64) then Some (f n) else None)
    else standing listed rows letters bits n

-- the value of a table that has these words
abbrev pub found : {A : Type 0} → (A → List Word) → List (Row A) → List Word → Option A
found listed rows (text letters ∷ []) = alone listed rows letters
found listed rows (text letters ∷ number bits n ∷ []) = standing listed rows letters bits n
found listed rows given = None

-- a number that stands in a table
record Stands {A : Type 0} (listed : A → List Word) (rows : List (Row A)) (letters : List ℕ) (bits n : ℕ) (x : A) : Type 0 where
  pub counts : n < 2 ^ bits → counted listed rows letters n ≡ Some x
  pub few : 2 ^ bits ≤ 2 ^ 64

passes : (n m : ℕ) → n < m → nat_lt n m ≡ true
passes n m less = grind (arith, nat_tests)

stands : {A : Type 0} (listed : A → List Word) (rows : List (Row A)) (letters : List ℕ) (bits n : ℕ) (x : A)
    → standing listed rows letters bits n ≡ Some x → Stands listed rows letters bits n x
stands listed [] letters bits n x e = absurd cc
stands listed (one y ∷ rows) letters bits n x e =
    let s = stands listed rows letters bits n x e in record { counts = s.counts; few = s.few }
stands listed (each f ∷ rows) letters bits n x e =
    elim (chosen (is_word letters (letters_of (listed (f 0))))
    (if (bits == bits_of (listed (f 0))) && nat_le (2 ^ bits) (2 ^ 64) then Some (f n) else None) (standing listed rows letters bits n) x e) [
      | inl here ↦ elim (chosen ((bits == bits_of (listed (f 0))) && nat_le (2 ^ bits) (2 ^ 64)) (Some (f n)) None x here.1) [
        | inl is ↦
            let b = both (bits == bits_of (listed (f 0))) (nat_le (2 ^ bits) (2 ^ 64)) is.0 in
            let same = same-number bits (bits_of (listed (f 0))) b.0 in
            record {
              counts = λ fits.
                  let less : nat_lt n (2 ^ bits_of (listed (f 0))) ≡ true = passes n (2 ^ bits_of (listed (f 0))) (subst (λ m. n < 2 ^ m) same fits) in
                  rw (here.0, less) is.1;
              few = at-most (2 ^ bits) (2 ^ 64) b.1;
            }
        | inr none ↦ absurd (cc none.1)
      ]
      | inr later ↦
          let s = stands listed rows letters bits n x later.1 in
          record { counts = λ fits. rw later.0 (s.counts fits); few = s.few }
    ]

pub told-said : {A : Type 0} (names : List (List ℕ)) (listed : A → List Word) (rows : List (Row A)) (given : List Word) (x : A)
    → found listed rows given ≡ Some x → AllFit names given → told_in listed rows (map (spelled names) given) ≡ Some x
told-said names listed rows (text letters ∷ []) x e fit = e
told-said names listed rows (text letters ∷ number bits n ∷ []) x e fit =
    let s = stands listed rows letters bits n x e in
    let few = s.few in
    let less = fit.1.0 in
    rw (whole_said n (omega (arith, few, less))) (s.counts less)
told-said names listed rows given x e fit = absurd cc

-- ---- of a word alone

pub named-back : {A : Type 0} (letters : A → List ℕ) (xs : List A) → list_all (λ x. list_all is_ascii_lowercase (letters x)) xs ≡ true
    → (word : List ℕ) (x : A) → named letters xs word ≡ Some x → (word ≡ letters x) × AreSmall word
named-back letters [] small word x e = absurd cc
named-back letters (y ∷ ys) small word x e =
    let p = both (list_all is_ascii_lowercase (letters y)) (list_all (λ x. list_all is_ascii_lowercase (letters x)) ys) small in
    elim (chosen (is_word word (letters y)) (Some y) (named letters ys word) x e) [
      | inl here ↦
          let w = the_word word (letters y) here.0 in
          subst (λ z. (word ≡ letters z) × AreSmall word) (same_some y x here.1) (w, subst AreSmall (sym w) p.0)
      | inr later ↦ named-back letters ys p.1 word x later.1
    ]

-- ---- the tables

pub cause-back : (word : List ℕ) (cause : Cause) → named cause_text causes word ≡ Some cause → (word ≡ cause_text cause) × AreSmall word
cause-back word cause e = named-back cause_text causes refl word cause e

pub cause-said : (cause : Cause) → named cause_text causes (cause_text cause) ≡ Some cause
cause-said All = refl
cause-said _ = refl

pub sec-back : (word : List ℕ) (sec : Bool) → named frame_text secs word ≡ Some sec → (word ≡ frame_text sec) × AreSmall word
sec-back word sec e = named-back frame_text secs refl word sec e

pub sec-said : (sec : Bool) → named frame_text secs (frame_text sec) ≡ Some sec
sec-said true = refl
sec-said _ = refl

pub why-table : IsTable why_words whys
why-table = record { formed = λ n. refl; small = refl }

pub why-found : (why : Why) → found why_words whys (why_words why) ≡ Some why
why-found NotListed = refl
why-found _ = refl

pub reason-table : IsTable reason_words reasons
reason-table = record { formed = λ n. refl; small = refl }

pub reason-found : (r : DropReason) → found reason_words reasons (reason_words r) ≡ Some r
reason-found (reason.Unspelled NotMka) = refl
reason-found (reason.Refused Echo) = refl
reason-found _ = refl

vouch-table : IsTable verdict_words vouches
vouch-table = record { formed = λ n. refl; small = refl }

pub lack-table : IsTable lack_words lacks
lack-table = record { formed = λ n. refl; small = refl }

pub lack-found : (why : Lack) → found lack_words lacks (lack_words why) ≡ Some why
lack-found NoKey = refl
lack-found _ = refl

-- ---- what hearing a frame comes to

pub verdict-said : (names : List (List ℕ)) (v : Verdict) → AllFit names (verdict_words v)
    → verdict_of (map (spelled names) (verdict_words v)) ≡ Some v
verdict-said names (verdict.Dropped r) fit =
    ap (option_map (λ r. verdict.Dropped r)) (told-said names reason_words reasons (reason_words r) r (reason-found r) fit.1)
verdict-said names _ fit = refl

pub verdict-back : (names : List (List ℕ)) (words : List (List ℕ)) (v : Verdict) → verdict_of words ≡ Some v → Back names (verdict_words v) words
verdict-back names [] v e = absurd cc
verdict-back names (word ∷ others) v e =
    elim (chosen (is_word word (codes "drop")) (option_map (λ r. verdict.Dropped r) (told_in reason_words reasons others))
    (told_in verdict_words vouches (word ∷ others)) v e) [
      | inl drop ↦
          let p = mapped (λ r. verdict.Dropped r) (told_in reason_words reasons others) v drop.1 in
          let b = told-back names reason_words reasons reason-table others p.0 p.1 in
          let w = the_word word (codes "drop") drop.0 in
          subst (λ (u : Verdict). Back names (verdict_words u) (word ∷ others)) p.2
          (record { spells = ap (λ ws. codes "drop" ∷ ws) b.spells ∙ ap (λ first. first ∷ others) (sym w); fits = (refl, b.fits) })
      | inr other ↦ told-back names verdict_words vouches vouch-table (word ∷ others) v other.1
    ]
