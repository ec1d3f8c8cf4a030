-- Keys that are set by hand become known one after the other.
use Rattle.std.proofs.Common.{◌≡◌, ◌∙◌, ◌<◌, ◌≤◌, ◌+◌, ℕ, suc, Bool, true, false, cond, List, [], ◌∷◌, ◌++◌, drop, get_or, length, Some, Ok, Err, refl, sym, ap, subst, arith, append_assoc, length-append}
use Rattle.std.specs.Prelude.{Option, unwrap_or}
use Rattle.std.proofs.Math.Seq.{drop-cons}
use Rattle.std.proofs.lemmas.List.{append-nil}
use Rattle.std.proofs.lemmas.Grind.{flat_map-append}
use Rattle.aes_block.specs.declared.secret.Secret.{Secret}
use Rattle.aes_block.specs.declared.secret.Secret.TheVariants.{S128}
use Rattle.aes_block.specs.Secrets.{same_secret}
use Rattle.known_keys.specs.declared.sender.Sender.TheVariants.{Any}
use Rattle.lan_base.specs.declared.association_number.AssociationNumber.TheVariants.{An0}
use Rattle.audit_report.specs.Lines.{hand_line, set_lines}
use Rattle.key_ring.specs.declared.ring.HandKey.{HandKey}
use Rattle.known_keys.specs.declared.fault.KeyError.{KeyError}
use Rattle.known_keys.specs.declared.fault.KeyError.TheVariants.{TooManyKeys, Memory}
use Rattle.known_keys.specs.History.{Entry, Set, keys}
use Rattle.known_keys.specs.Numbered.{number_from, number_in, most_keys}
use Rattle.known_keys.specs.Standing.{KeptKeys, StandsFor}
use Rattle.known_keys.proofs.Public.{front-keys}
use Rattle.capture_audit.specs.Before.{set_behind}
use Rattle.capture_audit.specs.inside.Keeping.{AreSetUpTo, AreTooMany, SetsKeys, end_of_key, numbered_among}

-- ---- numbers stay

from-front : (n : ℕ) (xs more : List Secret) (sak : Secret) (m : ℕ) → number_from n xs sak ≡ Some m
    → number_from n (xs ++ more) sak ≡ Some m
from-front n [] more sak m e = absurd (cc e)
from-front n (k ∷ xs) more sak m e = go (same_secret k sak) e (from-front (suc n) xs more sak m)
  where
    go : (b : Bool) → cond b (Some n) (number_from (suc n) xs sak) ≡ Some m
        → (number_from (suc n) xs sak ≡ Some m → number_from (suc n) (xs ++ more) sak ≡ Some m)
        → cond b (Some n) (number_from (suc n) (xs ++ more) sak) ≡ Some m
    go true e later = e
    go false e later = later e

-- ---- histories

later-set : (before : List Entry) (hand : List HandKey)
    → (later : List Entry) × (set_behind before hand ≡ later ++ before)
later-set before [] = ([], refl)
later-set before (key ∷ hand) =
    let rest = later-set (Set key.sender key.an key.sak ∷ before) hand in (
      rest.0 ++ Set key.sender key.an key.sak ∷ [],
      rest.1 ∙ sym (append_assoc rest.0 (Set key.sender key.an key.sak ∷ []) before),
    )

-- the key that comes next
abbrev pub told_next : List Entry → HandKey → List Entry
told_next before key = Set key.sender key.an key.sak ∷ before

pub number-stays : (before : List Entry) (key : HandKey) (rest : List HandKey) (n : ℕ)
    → number_in (keys (told_next before key)) key.sak ≡ Some n
    → unwrap_or (number_in (keys (set_behind (told_next before key) rest)) key.sak) 0 ≡ n
number-stays before key rest n e =
    let later = later-set (told_next before key) rest in
    let front = front-keys later.0 (told_next before key) in
    ap (λ (es : List Entry). unwrap_or (number_in (keys es) key.sak) 0) later.1
    ∙ ap (λ (ks : List Secret). unwrap_or (number_in ks key.sak) 0) front.1
    ∙ ap (λ (o : Option ℕ). unwrap_or o 0) (from-front 1 (keys (told_next before key)) front.0 key.sak n e)

pub many-stay : (before : List Entry) (rest : List HandKey) → AreTooMany before → AreTooMany (set_behind before rest)
many-stay before rest many =
    let later = later-set before rest in
    let front = front-keys later.0 before in
    let long : length (keys (set_behind before rest)) ≡ length (keys before) + length front.0 =
    ap (λ (es : List Entry). length (keys es)) later.1 ∙ ap (λ (ks : List Secret). length ks) front.1
    ∙ length-append (keys before) front.0 in
    omega (arith, long, many)

-- ---- one key more

abbrev all_keys : List HandKey → List Secret
all_keys hand = keys (set_behind [] hand)

pub sets-begin : (hand : List HandKey) (shown : Bool) (known : KeptKeys) (text : List ℕ) → StandsFor [] known
    → AreSetUpTo hand shown 0 known text text
sets-begin hand shown known text stands = record {
  told = [];
  done = [];
  rest_is = refl;
  stands = stands;
  few = omega arith;
  lines = sym (append-nil text);
  numbers = refl;
}

pub sets-more : (hand : List HandKey) (shown : Bool) (i : ℕ) (key : HandKey) (number : ℕ) (known new : KeptKeys) (text text_then text_new : List ℕ)
    → drop i hand ≡ key ∷ drop (i + 1) hand → (up : AreSetUpTo hand shown i known text text_then)
    → StandsFor (told_next up.told key) new → number_in (keys (told_next up.told key)) key.sak ≡ Some number
    → length (keys (told_next up.told key)) ≤ most_keys
    → text_new ≡ text_then ++ hand_line shown number key
    → AreSetUpTo hand shown (i + 1) new text text_new
sets-more hand shown i key number known new text text_then text_new e up stands is few is_text =
    let rest = drop (i + 1) hand in
    let behind : set_behind (told_next up.told key) rest ≡ set_behind [] hand =
    ap (λ (ks : List HandKey). set_behind up.told ks) (sym e) ∙ up.rest_is in
    let same : unwrap_or (number_in (all_keys hand) key.sak) 0 ≡ number =
    ap (λ (es : List Entry). unwrap_or (number_in (keys es) key.sak) 0) (sym behind)
    ∙ number-stays up.told key rest number is in
    record {
      told = told_next up.told key;
      done = up.done ++ (number, key) ∷ [];
      rest_is = behind;
      stands = stands;
      few = few;
      lines = is_text ∙ ap (λ (xs : List ℕ). xs ++ hand_line shown number key) up.lines
          ∙ append_assoc text (set_lines shown up.done) (hand_line shown number key)
          ∙ ap (λ (xs : List ℕ). text ++ (set_lines shown up.done ++ xs)) (sym (append-nil (hand_line shown number key)))
          ∙ ap (λ (xs : List ℕ). text ++ xs) (sym (flat_map-append (λ (it : ℕ × HandKey). hand_line shown it.0 it.1) up.done ((number, key) ∷ [])));
      numbers = append_assoc up.done ((number, key) ∷ []) (numbered_among (all_keys hand) rest)
          ∙ ap (λ n. up.done ++ ((n, key) ∷ numbered_among (all_keys hand) rest)) (sym same)
          ∙ ap (λ (ks : List HandKey). up.done ++ numbered_among (all_keys hand) ks) (sym e)
          ∙ up.numbers;
    }

pub sets-stop : (hand : List HandKey) (shown : Bool) (i : ℕ) (key : HandKey) (known new : KeptKeys) (text text_then text_new : List ℕ) (e : KeyError)
    → drop i hand ≡ key ∷ drop (i + 1) hand → (up : AreSetUpTo hand shown i known text text_then)
    → (e ≡ TooManyKeys → AreTooMany (told_next up.told key))
    → SetsKeys hand shown new text text_new (Err (end_of_key e))
sets-stop hand shown i key known new text text_then text_new TooManyKeys is up many =
    let rest = drop (i + 1) hand in
    let behind : set_behind (told_next up.told key) rest ≡ set_behind [] hand =
    ap (λ (ks : List HandKey). set_behind up.told ks) (sym is) ∙ up.rest_is in
    subst (λ (es : List Entry). AreTooMany es) behind (many-stay (told_next up.told key) rest (many refl))
sets-stop hand shown i key known new text text_then text_new Memory is up many = tt

pub sets-end : (hand : List HandKey) (shown : Bool) (i : ℕ) (known : KeptKeys) (text text_then : List ℕ) → drop i hand ≡ []
    → AreSetUpTo hand shown i known text text_then → SetsKeys hand shown known text text_then (Ok tt)
sets-end hand shown i known text text_then e up =
    let told : up.told ≡ set_behind [] hand = ap (λ (ks : List HandKey). set_behind up.told ks) (sym e) ∙ up.rest_is in (
      subst (λ (es : List Entry). StandsFor es known) told up.stands,
      subst (λ (es : List Entry). length (keys es) ≤ most_keys) told up.few,
      up.lines ∙ ap (λ (it : List (ℕ × HandKey)). text ++ set_lines shown it)
          (sym (append-nil up.done) ∙ ap (λ (ks : List HandKey). up.done ++ numbered_among (all_keys hand) ks) (sym e) ∙ up.numbers),
    )

-- the key that stands where there is none
abbrev pub no_key : HandKey
no_key = record { line = 0; sender = Any; an = An0; sak = S128 [] }

pub hand-drop : (hand : List HandKey) (i : ℕ) → i < length hand
    → drop i hand ≡ get_or hand i no_key ∷ drop (i + 1) hand
hand-drop hand i less =
    let n : suc i ≡ i + 1 = omega arith in
    drop-cons hand i no_key less ∙ ap (λ k. get_or hand i no_key ∷ drop k hand) n
