-- Keys that are set by hand are numbered one after the other.
use Rattle.std.proofs.Common.{◌≡◌, ◌∙◌, ◌≤◌, ◌+◌, ℕ, List, [], ◌∷◌, ◌++◌, drop, length, Some, refl, sym, ap, subst, arith, append_assoc}
use Rattle.std.specs.Prelude.{unwrap_or}
use Rattle.std.proofs.lemmas.List.{append-nil}
use Rattle.aes_block.specs.declared.secret.Secret.{Secret}
use Rattle.key_ring.specs.declared.ring.HandKey.{HandKey}
use Rattle.known_keys.specs.declared.fault.KeyError.{KeyError}
use Rattle.known_keys.specs.declared.fault.KeyError.TheVariants.{TooManyKeys, Memory}
use Rattle.known_keys.specs.History.{Entry, keys}
use Rattle.known_keys.specs.Numbered.{number_in, most_keys}
use Rattle.known_keys.specs.Standing.{KeptKeys, StandsFor}
use Rattle.capture_audit.specs.Before.{set_behind}
use Rattle.capture_audit.specs.inside.Keeping.{AreTooMany, end_of_key, numbered_among}
use Rattle.capture_audit.specs.inside.Viewing.{IsEndOfHand}
use Rattle.capture_audit.proofs.Setting.{many-stay, number-stays, told_next}

abbrev all_keys : List HandKey → List Secret
all_keys hand = keys (set_behind [] hand)

-- so many have their numbers
pub record IsNumberedTo (hand : List HandKey) (count : ℕ) (known : KeptKeys) (numbered : List (ℕ × HandKey)) : Type 0 where
  pub told : List Entry
  pub rest_is : set_behind told (drop count hand) ≡ set_behind [] hand
  pub stands : StandsFor told known
  pub few : length (keys told) ≤ most_keys
  pub numbers : numbered ++ numbered_among (all_keys hand) (drop count hand) ≡ numbered_among (all_keys hand) hand

pub number-begin : (hand : List HandKey) (known : KeptKeys) → StandsFor [] known → IsNumberedTo hand 0 known []
number-begin hand known stands =
    record { told = []; rest_is = refl; stands = stands; few = omega arith; numbers = refl }

module _ (hand : List HandKey) (i : ℕ) (key : HandKey) (known : KeptKeys) (numbered : List (ℕ × HandKey))
    (e : drop i hand ≡ key ∷ drop (i + 1) hand) (was : IsNumberedTo hand i known numbered) where
  behind : set_behind (told_next was.told key) (drop (i + 1) hand) ≡ set_behind [] hand
  behind = ap (λ (ks : List HandKey). set_behind was.told ks) (sym e) ∙ was.rest_is

  pub number-more : (number : ℕ) (new : KeptKeys) (then : List (ℕ × HandKey)) → StandsFor (told_next was.told key) new
      → number_in (keys (told_next was.told key)) key.sak ≡ Some number
      → length (keys (told_next was.told key)) ≤ most_keys → then ≡ numbered ++ (number, key) ∷ []
      → IsNumberedTo hand (i + 1) new then
  number-more number new then stands is few more =
      let rest = drop (i + 1) hand in
      let same : unwrap_or (number_in (all_keys hand) key.sak) 0 ≡ number =
      ap (λ (es : List Entry). unwrap_or (number_in (keys es) key.sak) 0) (sym behind)
      ∙ number-stays was.told key rest number is in
      record {
        told = told_next was.told key;
        rest_is = behind;
        stands = stands;
        few = few;
        numbers = ap (λ (xs : List (ℕ × HandKey)). xs ++ numbered_among (all_keys hand) rest) more
            ∙ append_assoc numbered ((number, key) ∷ []) (numbered_among (all_keys hand) rest)
            ∙ ap (λ n. numbered ++ ((n, key) ∷ numbered_among (all_keys hand) rest)) (sym same)
            ∙ ap (λ (ks : List HandKey). numbered ++ numbered_among (all_keys hand) ks) (sym e)
            ∙ was.numbers;
      }

  pub number-stop : (why : KeyError) → (why ≡ TooManyKeys → AreTooMany (told_next was.told key))
      → IsEndOfHand hand (end_of_key why)
  number-stop TooManyKeys many =
      subst (λ (es : List Entry). AreTooMany es) behind (many-stay (told_next was.told key) (drop (i + 1) hand) (many refl))
  number-stop Memory many = tt

pub number-end : (hand : List HandKey) (i : ℕ) (known : KeptKeys) (numbered : List (ℕ × HandKey)) → drop i hand ≡ []
    → IsNumberedTo hand i known numbered → numbered ≡ numbered_among (all_keys hand) hand
number-end hand i known numbered e was =
    sym (append-nil numbered)
    ∙ ap (λ (ks : List HandKey). numbered ++ numbered_among (all_keys hand) ks) (sym e) ∙ was.numbers
