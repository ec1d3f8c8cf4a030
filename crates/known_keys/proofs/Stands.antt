-- What a value says of a history, and one entry more.
use Rattle.std.proofs.Common.{◌≡◌, ◌∙◌, ◌<◌, ◌≤◌, ◌⊎◌, inl, inr, ℕ, Bool, true, false, List, [], ◌∷◌, length, Option, Some, None, refl, sym, ap, subst, arith}
use Rattle.std.specs.Prelude.{◌==◌, ◌&&◌, ◌||◌, option_and_then, nat_eq}
use Rattle.std.specs.Cmp.Lexicographic.{slice_cmp, pointwise, texts_ties}
use Rattle.std.specs.Ordering.{nat_cmp}
use Rattle.std.proofs.lemmas.Bool.{and_parts, or_cases, false_from_ne_true, eqb-true, eq-eqb}
use Rattle.std.proofs.lemmas.Cmp.{nat_list_eq_equiv}
use Rattle.std.proofs.lemmas.Map.Lookups.{exact_bytes}
use Rattle.lan_base.specs.declared.address.Sci.{Sci}
use Rattle.lan_base.specs.declared.association_number.AssociationNumber.{AssociationNumber}
use Rattle.lan_base.specs.AssociationNumbers.{number_of, same_an}
use Rattle.aes_block.specs.declared.secret.Secret.{Secret}
use Rattle.known_keys.specs.declared.sender.Sender.{Sender}
use Rattle.known_keys.specs.declared.sender.Sender.TheVariants.{Any, One}
use Rattle.known_keys.specs.Numbered.{greatest_first, number_in, with_key}
use Rattle.known_keys.specs.History.{Entry, keys, sak_of}
use Rattle.known_keys.specs.Known.{same_sender, is_for, is_it, is_told, number_told}
use Rattle.known_keys.specs.Standing.{IsMissed, IsOneKey, IsSaid, KeptKeys, StandsFor}
use Rattle.known_keys.specs.Maps.{AreKept, Keyed, Missed, Told, numbers_under}
use Rattle.known_keys.specs.inside.Steps.{IsKeyed, IsToldTo, with_place}
use Rattle.known_keys.proofs.SakNumbers.{equal}
use Rattle.known_keys.proofs.Numbering.{in-within, no-fewer}
use Rattle.known_keys.proofs.Greatest.{skip, same-below, placed, or_this}
use Rattle.known_keys.proofs.ListPuts.{an-is}

-- ---- which senders and association numbers are the same

same-sci-is : (a b : Sci) → pointwise nat_eq a.0 b.0 ≡ true → a ≡ b
same-sci-is a b e = ap (λ (xs : List ℕ). sci_of xs) (exact_bytes a.0 b.0 (equal (slice_cmp nat_cmp a.0 b.0) (sym (texts_ties a.0 b.0) ∙ e)))
  where
    sci_of : List ℕ → Sci
    sci_of xs = record { 0 = xs }

sender-same : (s t : Sender) → same_sender s t ≡ true → s ≡ t
sender-same Any Any e = refl
sender-same (One a) (One b) e = ap (λ (x : Sci). One x) (same-sci-is a b e)
sender-same Any (One b) e = absurd (cc e)
sender-same (One a) Any e = absurd (cc e)

sender-itself : (s : Sender) → same_sender s s ≡ true
sender-itself Any = refl
sender-itself (One a) = nat_list_eq_equiv.refl a.0

pub an-same : (a b : AssociationNumber) → same_an a b ≡ true → a ≡ b
an-same a b e = an-is a b (eqb-true (number_of a) (number_of b) e)

pub an-itself : (a : AssociationNumber) → same_an a a ≡ true
an-itself a = eq-eqb (number_of a) (number_of a) refl

-- ---- the numbers that were told are those of keys

is-it : (o : Option ℕ) (n : ℕ) → is_it o n ≡ true → o ≡ Some n
is-it None n e = absurd (cc e)
is-it (Some m) n e = ap (λ k. Some k) (eqb-true m n e)

number-within : (keys : List Secret) (o : Option Secret) (n : ℕ)
    → option_and_then (number_in keys) o ≡ Some n → n ≤ length keys
number-within keys None n e = absurd (cc e)
number-within keys (Some sak) n e = (in-within keys sak n e).1

pub told-within : (history : List Entry) (s : Sender) (a : AssociationNumber) (n : ℕ)
    → is_told history s a n ≡ true → n ≤ length (keys history)
told-within [] s a n e = absurd (cc e)
told-within (entry ∷ before) s a n e =
    go (or_cases (is_for s a entry && is_it (number_told before entry) n) (is_told before s a n) e)
    (told-within before s a n)
  where
    go : ((is_for s a entry && is_it (number_told before entry) n) ≡ true) ⊎ (is_told before s a n ≡ true)
        → (is_told before s a n ≡ true → n ≤ length (keys before)) → n ≤ length (keys (entry ∷ before))
    go (inl here) _ =
        number-within (keys (entry ∷ before)) (sak_of entry) n
        (is-it (number_told before entry) n
        (and_parts (is_for s a entry) (is_it (number_told before entry) n) here).1)
    go (inr there) within =
        let w = within there in let more = no-fewer (keys before) (sak_of entry) in omega (arith, w, more)

-- the lists are the same with one entry more that tells nothing
same-list : (history : List Entry) (entry : Entry) (s : Sender) (a : AssociationNumber)
    → greatest_first (is_told history s a) (length (keys history))
    ≡ greatest_first (is_told history s a) (length (keys (entry ∷ history)))
same-list history entry s a =
    sym (skip (is_told history s a) (length (keys history)) (length (keys (entry ∷ history)))
    (no-fewer (keys history) (sak_of entry))
    (λ n above most. false_from_ne_true (is_told history s a n) (λ told.
    let w = told-within history s a n told in absurd (omega (arith, w, above)))))

-- the lists of numbers are those of the history
abbrev pub AreLists : List Entry → Told → Type 0
AreLists history lists = (sender : Sender) (an : AssociationNumber)
    → numbers_under lists sender an ≡ greatest_first (is_told history sender an) (length (keys history))

-- an entry that tells a key to no one
pub lists-stay : (history : List Entry) (entry : Entry) (old new : Told) → new ≡ old
    → ((s : Sender) (a : AssociationNumber) → is_for s a entry ≡ false)
    → AreLists history old → AreLists (entry ∷ history) new
lists-stay history entry old new stays quiet are s a =
    ap (λ (lists : Told). numbers_under lists s a) stays
    ∙ are s a
    ∙ same-list history entry s a
    ∙ same-below (is_told history s a) (is_told (entry ∷ history) s a) (length (keys (entry ∷ history)))
    (λ n above most. sym (ap (λ b. (b && is_it (number_told history entry) n) || is_told history s a n) (quiet s a)))

-- an entry that tells a key
pub lists-told : (history : List Entry) (entry : Entry) (old new : Told) (sender : Sender)
    (an : AssociationNumber) (number : ℕ) → IsToldTo sender an number old new
    → number_told history entry ≡ Some number
    → ((s : Sender) (a : AssociationNumber) → is_for s a entry ≡ (same_sender sender s && same_an an a))
    → AreLists history old → AreLists (entry ∷ history) new
lists-told history entry old new sender an number put told meant are s a =
    go (same_sender sender s && same_an an a) refl
  where
    k : ℕ
    k = length (keys (entry ∷ history))

    within : (0 < number) × (number ≤ k)
    within = by (sak_of entry) told
      where
        by : (o : Option Secret) → option_and_then (number_in (keys (entry ∷ history))) o ≡ Some number
            → (0 < number) × (number ≤ k)
        by None e = absurd (cc e)
        by (Some sak) e = in-within (keys (entry ∷ history)) sak number e

    test : (b : Bool) → (same_sender sender s && same_an an a) ≡ b → (n : ℕ)
        → is_told (entry ∷ history) s a n ≡ ((b && (number == n)) || is_told history s a n)
    test b e n =
        ap (λ t. (t && is_it (number_told history entry) n) || is_told history s a n) (meant s a ∙ e)
        ∙ ap (λ o. (b && is_it o n) || is_told history s a n) told

    go : (b : Bool) → (same_sender sender s && same_an an a) ≡ b
        → numbers_under new s a ≡ greatest_first (is_told (entry ∷ history) s a) k
    go true e =
        let both = and_parts (same_sender sender s) (same_an an a) e in
        let who = sender-same sender s both.0 in
        let which = an-same an a both.1 in
        ap (λ (t : Sender). numbers_under new t a) (sym who)
        ∙ ap (λ (b : AssociationNumber). numbers_under new sender b) (sym which)
        ∙ put.here
        ∙ ap (λ (t : Sender). with_place number (numbers_under old t an)) who
        ∙ ap (λ (b : AssociationNumber). with_place number (numbers_under old s b)) which
        ∙ ap (λ ns. with_place number ns) (are s a ∙ same-list history entry s a)
        ∙ placed number (is_told history s a) k within.0 within.1
        ∙ same-below (or_this number (is_told history s a)) (is_told (entry ∷ history) s a) k
        (λ n above most. sym (test true e n))
    go false e =
        put.others s a (λ both. absurd (cc (
          ap (λ (t : Sender). same_sender sender t && same_an an a) both.0
              ∙ ap (λ (b : AssociationNumber). same_sender sender sender && same_an an b) both.1
              ∙ ap (λ b. b && same_an an an) (sender-itself sender) ∙ an-itself an,
          e,
        )))
        ∙ are s a ∙ same-list history entry s a
        ∙ same-below (is_told history s a) (is_told (entry ∷ history) s a) k (λ n above most. sym (test false e n))

-- ---- the keys

-- an entry that tells a SAK
pub keys-told : (history : List Entry) (entry : Entry) (sak : Secret) (number : ℕ) (new : Keyed)
    → sak_of entry ≡ Some sak → IsKeyed (keys history) sak number new
    → AreKept (keys (entry ∷ history)) new × (number_told history entry ≡ Some number)
keys-told history entry sak number new tells keyed =
    let same : with_key (keys history) (Some sak) ≡ keys (entry ∷ history) =
    ap (λ (o : Option Secret). with_key (keys history) o) (sym tells) in (
      subst (λ (ss : List Secret). AreKept ss new) same keyed.kept,
      ap (λ (o : Option Secret). option_and_then (number_in (keys (entry ∷ history))) o) tells
          ∙ ap (λ (ss : List Secret). number_in ss sak) (sym same) ∙ keyed.number,
    )

pub told-stands : (history : List Entry) (entry : Entry) (sak : Secret) (number : ℕ) (old new : KeptKeys)
    (sender : Sender) (an : AssociationNumber)
    → sak_of entry ≡ Some sak
    → ((s : Sender) (a : AssociationNumber) → is_for s a entry ≡ (same_sender sender s && same_an an a))
    → StandsFor history old → IsKeyed (keys history) sak number new.keys
    → IsToldTo sender an number old.lists new.lists → IsOneKey (entry ∷ history) new.firsts
    → IsSaid (entry ∷ history) new.said → IsMissed (entry ∷ history) new.misses
    → StandsFor (entry ∷ history) new
told-stands history entry sak number old new sender an tells meant stands keyed put one said missed =
    let both = keys-told history entry sak number new.keys tells keyed in
    record {
      are_kept = both.0;
      lists = lists-told history entry old.lists new.lists sender an number put both.1 meant stands.lists;
      one_key = one;
      is_said = said;
      is_missed = missed;
    }

-- an entry that tells no SAK
pub quiet-stands : (history : List Entry) (entry : Entry) (old : KeptKeys) (missed : Missed) → sak_of entry ≡ None
    → ((s : Sender) (a : AssociationNumber) → is_for s a entry ≡ false)
    → StandsFor history old → IsOneKey (entry ∷ history) old.firsts → IsSaid (entry ∷ history) old.said
    → IsMissed (entry ∷ history) missed → StandsFor (entry ∷ history) (record old { misses = missed })
quiet-stands history entry old missed none quiet stands one said are = record {
  are_kept = subst (λ (o : Option Secret). AreKept (with_key (keys history) o) old.keys) (sym none) stands.are_kept;
  lists = lists-stay history entry old.lists old.lists refl quiet stands.lists;
  one_key = one;
  is_said = said;
  is_missed = are;
}
