-- A text of facts says the facts.
use Rattle.std.proofs.Common.{◌≡◌, ℕ, Bool, true, false, List, [], ◌∷◌, ◌++◌, refl, sym, ap, ◌∙◌, append_assoc}
use Rattle.std.specs.Prelude.{◌==◌, Option, Some, None, map}
use Rattle.std.specs.List.{All, list_all, slice_split}
use Rattle.std.proofs.lemmas.List.{append-nil}
use Rattle.std.proofs.lemmas.List.Elements.{All-cons, All-append, All-nil, All-head, All-tail}
use Rattle.std.proofs.lemmas.List.Splits.{slice_split_none, slice_split_at}
use Rattle.lan_base.specs.Name.{IsName}
use Rattle.std.specs.Char.{is_ascii_digit, is_ascii_alphanumeric, is_ascii_lowercase}
use Rattle.hex.specs.Hex.{is_hex_digit}
use Rattle.lan_core.specs.declared.fact.Fact.{Fact}
use Rattle.lan_core.specs.declared.fact.Fact.TheVariants.{Life}
use Rattle.trace_text.specs.Words.{spaced}
use Rattle.transcript.specs.Words.{Word, text, words, spelled, Fits}
use Rattle.lan_base.specs.Differing.{AllDiffer}
use Rattle.transcript.specs.Rendering.{joined, line, transcript, AllFit, IsFact, Says}
use Rattle.transcript.specs.inside.Reading.{fact_in, along, fact_tree}
use Rattle.transcript.proofs.Tests.{both}
use Rattle.transcript.proofs.Plain.{Lacks, is_narrow, spelled_lacks}
use Rattle.transcript.proofs.Splitting.{joined_again}
use Rattle.transcript.proofs.Sound.{tells}
use Rattle.transcript.proofs.EachFact.{fact_told, narrow, sound_tree}

abbrev is_space : ℕ → Bool
is_space octet = octet == 32

abbrev is_feed : ℕ → Bool
is_feed octet = octet == 10

abbrev AllLack : ℕ → List (List ℕ) → Type 0
AllLack c [] = Unit {0}
AllLack c (word ∷ others) = Lacks c word × AllLack c others

all_lack : (c : ℕ) (names : List (List ℕ)) (ws : List Word)
    → ((word : Word) → Fits names word → is_narrow word ≡ true → Lacks c (spelled names word))
    → AllFit names ws → list_all is_narrow ws ≡ true → AllLack c (map (spelled names) ws)
all_lack c names [] lacks fit small = tt
all_lack c names (word ∷ ws) lacks fit small =
    let p = both (is_narrow word) (list_all is_narrow ws) small in
    (lacks word fit.0 p.0, all_lack c names ws lacks fit.1 p.1)

-- words between single spaces are the words again
pub split_words : (first : List ℕ) (others : List (List ℕ)) → Lacks 32 first → AllLack 32 others
    → slice_split is_space (first ++ spaced others) ≡ first ∷ others
split_words first [] f o = ap (slice_split is_space) (append-nil first) ∙ slice_split_none is_space first f
split_words first (word ∷ others) f o =
    slice_split_at is_space first 32 (word ++ spaced others) f refl ∙ ap (λ ws. first ∷ ws) (split_words word others o.0 o.1)

spaced_lacks : (c : ℕ) → (32 == c) ≡ false → (others : List (List ℕ)) → AllLack c others → Lacks c (spaced others)
spaced_lacks c apart [] o = All-nil (λ octet. (octet == c) ≡ false)
spaced_lacks c apart (word ∷ others) o =
    All-cons (λ octet. (octet == c) ≡ false) 32 (word ++ spaced others) apart
    (All-append (λ octet. (octet == c) ≡ false) word (spaced others) o.0 (spaced_lacks c apart others o.1))

joined_lacks : (c : ℕ) → (32 == c) ≡ false → (ws : List (List ℕ)) → AllLack c ws → Lacks c (joined ws)
joined_lacks c apart [] o = All-nil (λ octet. (octet == c) ≡ false)
joined_lacks c apart (word ∷ others) o =
    All-append (λ octet. (octet == c) ≡ false) word (spaced others) o.0 (spaced_lacks c apart others o.1)

-- the first word of a fact, and the others
abbrev first : List Word → Word
first [] = text []
first (word ∷ others) = word

abbrev others : List Word → List Word
others [] = []
others (word ∷ words) = words

abbrev IsSome : List Word → Type 0
IsSome ws = ws ≡ first ws ∷ others ws

some_words : (fact : Fact) → IsSome (words fact)
some_words (Life s mi) = refl
some_words _ = refl

all_plain : (c : ℕ) (names : List (List ℕ)) (fact : Fact) → is_ascii_alphanumeric c ≡ false → is_ascii_lowercase c ≡ false
    → is_ascii_digit c ≡ false → is_hex_digit c ≡ false → All IsName names → IsFact names fact → AllLack c (map (spelled names) (words fact))
all_plain c names fact a l d h named fit =
    all_lack c names (words fact) (λ word f small. spelled_lacks c names word a l d h named f small) fit (narrow fact)

split_some : (names : List (List ℕ)) (ws : List Word) → IsSome ws → AllLack 32 (map (spelled names) ws)
    → slice_split is_space (joined (map (spelled names) ws)) ≡ map (spelled names) ws
split_some names [] some lack = absurd cc
split_some names (word ∷ ws) some lack = split_words (spelled names word) (map (spelled names) ws) lack.0 lack.1

-- the words of a line
pub line_words : (names : List (List ℕ)) (fact : Fact) → All IsName names → IsFact names fact
    → slice_split is_space (line names fact) ≡ map (spelled names) (words fact)
unfolding line
line_words names fact named fit =
    split_some names (words fact) (some_words fact) (all_plain 32 names fact refl refl refl refl named fit)

-- a line says its fact
pub line_told : (names : List (List ℕ)) (fact : Fact) → All IsName names → AllDiffer names → IsFact names fact → fact_in names (line names fact) ≡ Some fact
line_told names fact named d fit =
    ap (along names fact_tree) (line_words names fact named fit) ∙ fact_told names fact d fit

-- the fact that a line says has that line
pub line_said : (names : List (List ℕ)) (written : List ℕ) (fact : Fact) → fact_in names written ≡ Some fact → Says names written fact
unfolding line
line_said names written fact e =
    let t = tells names [] fact_tree (slice_split is_space written) fact sound_tree tt e in
    (t.fits, ap joined t.spells ∙ joined_again written)

-- a line has no line feed and no carriage return in it
pub line_lacks : (names : List (List ℕ)) (fact : Fact) → All IsName names → IsFact names fact → Lacks 10 (line names fact)
unfolding line
line_lacks names fact named fit =
    joined_lacks 10 refl (map (spelled names) (words fact)) (all_plain 10 names fact refl refl refl refl named fit)

pub line_returns_never : (names : List (List ℕ)) (fact : Fact) → All IsName names → IsFact names fact → Lacks 13 (line names fact)
unfolding line
line_returns_never names fact named fit =
    joined_lacks 13 refl (map (spelled names) (words fact)) (all_plain 13 names fact refl refl refl refl named fit)

abbrev onto : Option Fact → List Fact → List Fact
onto None facts = facts
onto (Some fact) facts = fact ∷ facts

abbrev facts_of : List (List ℕ) → List (List ℕ) → List Fact
facts_of names [] = []
facts_of names (one ∷ others) = onto (fact_in names one) (facts_of names others)

-- the facts that a text says, line by line
abbrev facts_in : List (List ℕ) → List ℕ → List Fact
facts_in names octets = facts_of names (slice_split is_feed octets)

text_told : (names : List (List ℕ)) (facts : List Fact) → All IsName names → AllDiffer names → All (IsFact names) facts
    → facts_in names (transcript names facts) ≡ facts
text_told names [] named d fit = refl
text_told names (fact ∷ facts) named d fit =
    let head = All-head (IsFact names) fact facts fit in
    ap (facts_in names) (append_assoc (line names fact) (10 ∷ []) (transcript names facts))
    ∙ ap (facts_of names) (slice_split_at is_feed (line names fact) 10 (transcript names facts) (line_lacks names fact named head) refl)
    ∙ ap (λ o. onto o (facts_in names (transcript names facts))) (line_told names fact named d head)
    ∙ ap (λ fs. fact ∷ fs) (text_told names facts named d (All-tail (IsFact names) fact facts fit))

-- different facts have different texts
pub texts_differ : (names : List (List ℕ)) (these those : List Fact) → All IsName names → AllDiffer names → All (IsFact names) these → All (IsFact names) those
    → transcript names these ≡ transcript names those → these ≡ those
texts_differ names these those named d fit fit2 e =
    sym (text_told names these named d fit) ∙ ap (facts_in names) e ∙ text_told names those named d fit2
