-- What receive slots answer has its fields in their types.
use Rattle.std.proofs.Common.{◌≡◌, ◌<◌, ◌≤◌, ◌+◌, ◌^◌, inl, inr, ℕ, Bool, true, false, cond, not, List, [], ◌∷◌, map, filter}
use Rattle.std.proofs.Common.{Option, Some, None, Result, Ok, Err, refl, sym, subst, arith}
use Rattle.aes_block.specs.Aes.{IsKey as IsCipherKey}
use Rattle.aes_block.specs.Secrets.{secret_octets}
use Rattle.aes_block.specs.declared.secret.Secret.{Secret}
use Rattle.aes_block.specs.declared.secret.Secret.TheVariants.{S128, S256}
use Rattle.lan_base.specs.declared.address.Sci.{Sci}
use Rattle.lan_base.specs.declared.association_number.AssociationNumber.{AssociationNumber}
use Rattle.lan_base.specs.AssociationNumbers.{same_an}
use Rattle.lan_base.specs.Identifiers.{same_sci}
use Rattle.gcm_frames.specs.declared.tag.Tag.{Tag}
use Rattle.gcm_frames.specs.declared.tag.TagRefusal.{TagRefusal}
use Rattle.gcm_frames.specs.Sealed.{opened}
use Rattle.gcm_frames.specs.Tags.{tag_fields}
use Rattle.rx_slots.specs.declared.arrival.Arrival.TheVariants.{Accepted, Late}
use Rattle.rx_slots.specs.declared.arrival.Checked.{Checked}
use Rattle.rx_slots.specs.declared.arrival.Checked.TheVariants as checked_is
use Rattle.rx_slots.specs.Answers.{checked, checked_fields, checked_under, checked_data}
use Rattle.rx_slots.specs.Histories.{Receiving, installed, removed, heard, standing_key}
use Rattle.rx_slots.specs.Numbers.{Taken, accepted, admitted, answer, greatest, is_late, is_of, is_under, next_number, taken}
use Rattle.lan_core.specs.Types.{AreOctets, IsSecret}
use Rattle.lan_core.specs.TypedFacts.{IsTypedArrival}
use Rattle.group_safety.proofs.Members.{In, in-from_map, in-unfiltered}
use Rattle.group_safety.proofs.once.Currents.{some-same, none-some}
use Rattle.group_safety.proofs.typed.OctetsMade.{tag-typed, opened-octets}

-- keys that are secrets, and frames of octets
abbrev pub AreReceived : List Receiving → Type 0
AreReceived [] = Unit {0}
AreReceived (installed an secret ∷ h) = IsSecret secret × AreReceived h
AreReceived (removed an ∷ h) = AreReceived h
AreReceived (heard frame ∷ h) = AreOctets frame × AreReceived h

pub secret-key : (s : Secret) → IsSecret s → IsCipherKey (secret_octets s)
secret-key (S128 octets) is = record { count = inl is.0; octets = is.1 }
secret-key (S256 octets) is = record { count = inr (inr is.0); octets = is.1 }

standing-typed : (h : List Receiving) (an : AssociationNumber) → AreReceived h → (s : Secret)
    → standing_key h an ≡ Some s → IsSecret s
standing-typed [] an are s is = absurd (none-some is)
standing-typed (installed n secret ∷ h) an are s is =
    go (same_an n an) is (standing-typed h an are.1 s)
  where
    go : (b : Bool) → cond b (Some secret) (standing_key h an) ≡ Some s
        → (standing_key h an ≡ Some s → IsSecret s) → IsSecret s
    go true e later = subst IsSecret (some-same e) are.0
    go false e later = later e
standing-typed (removed n ∷ h) an are s is = go (same_an n an) is (standing-typed h an are s)
  where
    go : (b : Bool) → cond b None (standing_key h an) ≡ Some s
        → (standing_key h an ≡ Some s → IsSecret s) → IsSecret s
    go true e later = absurd (none-some e)
    go false e later = later e
standing-typed (heard frame ∷ h) an are s is = standing-typed h an are.1 s is

abbrev IsChecked : Checked → Type 0
IsChecked (checked_is.Sealed sci an pn body) = (pn < 2 ^ 32) × AreOctets body
IsChecked (checked_is.Malformed refusal) = Unit {0}
IsChecked checked_is.Own = Unit {0}
IsChecked (checked_is.Missed an) = Unit {0}
IsChecked checked_is.BadCheck = Unit {0}

checked-typed : (own : Sci) (h : List Receiving) (frame : List ℕ) → AreReceived h
    → AreOctets frame → IsChecked (checked own (standing_key h) frame)
checked-typed own h frame are all = fields (tag_fields frame) refl
  where
    by-data : (tag : Tag) (s : Secret) → tag_fields frame ≡ Ok tag → IsSecret s
        → (o : Option (List ℕ)) → opened (secret_octets s) tag frame ≡ o
        → IsChecked (checked_data tag o)
    by-data tag s e is None f = tt
    by-data tag s e is (Some user) f =
        let t = tag-typed frame tag all e in
        (t.pn, opened-octets (secret_octets s) tag frame user (secret-key s is) t.sci all f)

    under : (tag : Tag) → tag_fields frame ≡ Ok tag → (k : Option Secret)
        → standing_key h tag.an ≡ k → IsChecked (checked_under k tag frame)
    under tag e None f = tt
    under tag e (Some s) f =
        by-data tag s e (standing-typed h tag.an are s f) (opened (secret_octets s) tag frame) refl

    fields : (r : Result Tag TagRefusal) → tag_fields frame ≡ r
        → IsChecked (checked_fields own (standing_key h) frame r)
    fields (Err refusal) e = tt
    fields (Ok tag) e = go (same_sci tag.sci own)
      where
        go : (b : Bool)
            → IsChecked (cond b checked_is.Own (checked_under (standing_key h tag.an) tag frame))
        go true = tt
        go false = under tag e (standing_key h tag.an) refl

abbrev AllBelow : List Taken → Type 0
AllBelow past = (t : Taken) → In t past → t.pn < 2 ^ 32

taken-below : (window : ℕ) (past : List Taken) (c : Checked) → AllBelow past → IsChecked c
    → AllBelow (taken window past c)
taken-below window past (checked_is.Sealed sci an pn body) all is =
    go (is_late window (next_number past an sci) pn)
  where
    go : (b : Bool) → AllBelow (cond b past (record { an = an; sci = sci; pn = pn } ∷ past))
    go true = all
    go false = λ t i. elim i [
      | inl e ↦ subst (λ (t : Taken). t.pn < 2 ^ 32) (sym e) is.0
      | inr later ↦ all t later
    ]
taken-below window past (checked_is.Malformed refusal) all is = all
taken-below window past checked_is.Own all is = all
taken-below window past (checked_is.Missed an) all is = all
taken-below window past checked_is.BadCheck all is = all

accepted-below : (own : Sci) (window : ℕ) (h : List Receiving) → AreReceived h
    → AllBelow (accepted own window h)
accepted-below own window [] are = λ t i. elim i [ ]
accepted-below own window (installed an secret ∷ h) are = λ t i.
    accepted-below own window h are.1 t
    (in-unfiltered (λ t. not (is_under an t)) (accepted own window h) t i)
accepted-below own window (removed an ∷ h) are = λ t i.
    accepted-below own window h are t
    (in-unfiltered (λ t. not (is_under an t)) (accepted own window h) t i)
accepted-below own window (heard frame ∷ h) are =
    taken-below window (accepted own window h) (checked own (standing_key h) frame)
    (accepted-below own window h are.1) (checked-typed own h frame are.1 are.0)

greatest-most : (ns : List ℕ) (most : ℕ) → 1 ≤ most → ((n : ℕ) → In n ns → n ≤ most)
    → greatest ns ≤ most
greatest-most [] most one all = one
greatest-most (n ∷ ns) most one all =
    let first = all n (inl refl) in
    let rest = greatest-most ns most one (λ m i. all m (inr i)) in
    omega (arith, first, rest)

next-most : (past : List Taken) (an : AssociationNumber) (sci : Sci) → AllBelow past
    → next_number past an sci ≤ 2 ^ 32
next-most past an sci all =
    greatest-most (map (λ t. t.pn + 1) (filter (is_of an sci) past)) (2 ^ 32) (omega arith)
    (λ n i. let r = in-from_map (λ (t : Taken). t.pn + 1) (filter (is_of an sci) past) n i in
    let less = all r.0 (in-unfiltered (is_of an sci) past r.0 r.1) in
    let same = r.2 in omega (arith, same, less))

pub answer-typed : (own : Sci) (window : ℕ) (h : List Receiving) (frame : List ℕ) → AreReceived h
    → AreOctets frame → IsTypedArrival (answer own window h frame)
answer-typed own window h frame are all =
    admits (checked own (standing_key h) frame) (checked-typed own h frame are all)
  where
    past : List Taken
    past = accepted own window h

    admits : (c : Checked) → IsChecked c → IsTypedArrival (admitted window past c)
    admits (checked_is.Sealed sci an pn body) is = go (is_late window (next_number past an sci) pn)
      where
        go : (b : Bool)
            → IsTypedArrival (cond b (Late (next_number past an sci)) (Accepted pn body))
        go true = let most = next-most past an sci (accepted-below own window h are) in
            omega (arith, most)
        go false = is
    admits (checked_is.Malformed refusal) is = tt
    admits checked_is.Own is = tt
    admits (checked_is.Missed an) is = tt
    admits checked_is.BadCheck is = tt
