-- What keys a history tells in which each entry gives a key that the run made, or shows one.
use Rattle.std.proofs.Common.{◌≡◌, ◌≤◌, ◌-◌, refl, sym, ap, ◌∙◌, subst, inl, inr, ◌⊎◌, ℕ, zero, suc}
use Rattle.std.proofs.Common.{List, [], ◌∷◌, ◌++◌, length, map, Bool, true, false, cond, ◌&&◌, ◌||◌, Option, Some, None, arith}
use Rattle.std.specs.Prelude.{slice_get}
use Rattle.std.proofs.lemmas.Bool.{and_parts, cases_eq, eq-eqb, eqb-true, ne_eqb, true≢false}
use Rattle.lan_base.specs.declared.address.Sci.{Sci}
use Rattle.lan_base.specs.declared.association_number.AssociationNumber.{AssociationNumber}
use Rattle.lan_base.specs.declared.key_id.KeyId.{KeyId}
use Rattle.aes_block.specs.Secrets.{same_secret, secret_octets}
use Rattle.aes_block.proofs.Public.{same_secret-is, same_secret-itself}
use Rattle.aes_block.specs.declared.secret.Secret.{Secret}
use Rattle.mkpdu_codec.specs.declared.offset.ConfidentialityOffset.{ConfidentialityOffset}
use Rattle.known_keys.specs.declared.giving.Giving.TheVariants.{Key, Without}
use Rattle.known_keys.specs.declared.sender.Sender.{Sender}
use Rattle.known_keys.specs.declared.sender.Sender.TheVariants.{Any, One}
use Rattle.known_keys.specs.History.{Entry, Gave, Set, Showed, Strange, keys, sak_of}
use Rattle.known_keys.specs.Known.{is_for, is_it, is_open, is_told, known, number_told}
use Rattle.known_keys.specs.Numbered.{greatest_first, number_from, number_in, with_key, with_number}
use Rattle.known_keys.proofs.Public.{in-within}
use Rattle.sak_exchange.proofs.Public.{same-an-itself}
use Rattle.lan_core.specs.Ledgers.{Install, installs}
use Rattle.lan_core.specs.Run.{Run}
use Rattle.packet_verdicts.specs.Right.{key_numbered}
use Rattle.group_safety.proofs.Public.{In}

-- ---- the numbers of keys

number-front : (n : ℕ) (keys more : List Secret) (sak : Secret) (m : ℕ)
    → number_from n keys sak ≡ Some m → number_from n (keys ++ more) sak ≡ Some m
number-front n [] more sak m e = absurd (cc e)
number-front n (k ∷ keys) more sak m e =
    go (same_secret k sak) refl e (number-front (suc n) keys more sak m)
  where
    go : (b : Bool) → same_secret k sak ≡ b → cond b (Some n) (number_from (suc n) keys sak) ≡ Some m
        → (number_from (suc n) keys sak ≡ Some m → number_from (suc n) (keys ++ more) sak ≡ Some m)
        → number_from n ((k ∷ keys) ++ more) sak ≡ Some m
    go true is e later = rw is e
    go false is e later = rw is (later e)

number-last : (n : ℕ) (keys : List Secret) (sak : Secret) → number_from n keys sak ≡ None
    → (m : ℕ) × (number_from n (keys ++ sak ∷ []) sak ≡ Some m)
number-last n [] sak e = (n, rw (same_secret-itself sak) refl)
number-last n (k ∷ keys) sak e = go (same_secret k sak) refl e (number-last (suc n) keys sak)
  where
    go : (b : Bool) → same_secret k sak ≡ b → cond b (Some n) (number_from (suc n) keys sak) ≡ None
        → (number_from (suc n) keys sak ≡ None
        → (m : ℕ) × (number_from (suc n) (keys ++ sak ∷ []) sak ≡ Some m))
        → (m : ℕ) × (number_from n ((k ∷ keys) ++ sak ∷ []) sak ≡ Some m)
    go true is e later = absurd (cc e)
    go false is e later = let r = later e in (r.0, rw is r.1)

-- a key more takes no number away
pub number-stays : (told : List Entry) (entry : Entry) (sak : Secret) (n : ℕ)
    → number_in (keys told) sak ≡ Some n → number_in (keys (entry ∷ told)) sak ≡ Some n
number-stays told entry sak n e = go (sak_of entry)
  where
    go : (o : Option Secret) → number_in (with_key (keys told) o) sak ≡ Some n
    go None = e
    go (Some new) = here (number_in (keys told) new)
      where
        here : (o : Option ℕ) → number_in (with_number (keys told) new o) sak ≡ Some n
        here None = number-front 1 (keys told) (new ∷ []) sak n e
        here (Some m) = e

-- a key that is told has a number
number-new : (told : List Secret) (sak : Secret)
    → (n : ℕ) × (number_in (with_key told (Some sak)) sak ≡ Some n)
number-new told sak = go (number_in told sak) refl
  where
    go : (o : Option ℕ) → number_in told sak ≡ o
        → (n : ℕ) × (number_in (with_number told sak o) sak ≡ Some n)
    go None none = number-last 1 told sak none
    go (Some m) some = (m, some)

number-least : (n : ℕ) (keys : List Secret) (sak : Secret) (m : ℕ) → number_from n keys sak ≡ Some m
    → n ≤ m
number-least n [] sak m e = absurd (cc e)
number-least n (k ∷ keys) sak m e = go (same_secret k sak) e (number-least (suc n) keys sak m)
  where
    go : (b : Bool) → cond b (Some n) (number_from (suc n) keys sak) ≡ Some m
        → (number_from (suc n) keys sak ≡ Some m → suc n ≤ m) → n ≤ m
    go true is later = let same : n ≡ m = cc is in omega (arith, same)
    go false is later = let less = later is in omega (arith, less)

-- two keys with one number are one
pub same-number : (n : ℕ) (keys : List Secret) (a b : Secret) (m : ℕ) → number_from n keys a ≡ Some m
    → number_from n keys b ≡ Some m → a ≡ b
same-number n [] a b m e f = absurd (cc e)
same-number n (k ∷ keys) a b m e f =
    go (same_secret k a) refl (same_secret k b) refl e f (same-number (suc n) keys a b m)
  where
    go : (x : Bool) → same_secret k a ≡ x → (y : Bool) → same_secret k b ≡ y
        → cond x (Some n) (number_from (suc n) keys a) ≡ Some m
        → cond y (Some n) (number_from (suc n) keys b) ≡ Some m
        → (number_from (suc n) keys a ≡ Some m → number_from (suc n) keys b ≡ Some m → a ≡ b) → a ≡ b
    go true p true q e f later = sym (same_secret-is k a p) ∙ same_secret-is k b q
    go true p false q e f later =
        let same : n ≡ m = cc e in let more = number-least (suc n) keys b m f in
        absurd (omega (arith, same, more))
    go false p true q e f later =
        let same : n ≡ m = cc f in let more = number-least (suc n) keys a m e in
        absurd (omega (arith, same, more))
    go false p false q e f later = later e f

-- the octets of the key with a number
numbered-from : (n : ℕ) (keys : List Secret) (sak : Secret) (m : ℕ) → number_from n keys sak ≡ Some m
    → slice_get (map secret_octets keys) (m - n) ≡ Some (secret_octets sak)
numbered-from n [] sak m e = absurd (cc e)
numbered-from n (k ∷ keys) sak m e =
    go (same_secret k sak) refl e (numbered-from (suc n) keys sak m)
  where
    go : (b : Bool) → same_secret k sak ≡ b → cond b (Some n) (number_from (suc n) keys sak) ≡ Some m
        → (number_from (suc n) keys sak ≡ Some m
        → slice_get (map secret_octets keys) (m - suc n) ≡ Some (secret_octets sak))
        → slice_get (map secret_octets (k ∷ keys)) (m - n) ≡ Some (secret_octets sak)
    go true is f later =
        let same : n ≡ m = cc f in
        let none : m - n ≡ 0 = omega (arith, same) in
        ap (slice_get (map secret_octets (k ∷ keys))) none ∙ ap (λ s. Some (secret_octets s)) (same_secret-is k sak is)
    go false is f later =
        let more = number-least (suc n) keys sak m f in
        let one : m - n ≡ suc (m - suc n) = omega (arith, more) in
        ap (slice_get (map secret_octets (k ∷ keys))) one ∙ later f

pub numbered : (keys : List Secret) (sak : Secret) (m : ℕ) → number_in keys sak ≡ Some m
    → key_numbered (map secret_octets keys) m ≡ Some (secret_octets sak)
numbered saks sak zero e = let least = number-least 1 saks sak 0 e in absurd (omega (arith, least))
numbered saks sak (suc m) e =
    rw (ne_eqb (suc m) 0 (λ same. omega (arith, same))) (numbered-from 1 saks sak (suc m) e)

-- ---- what entries tell

-- an entry gives a key that the run installed, or shows one
abbrev pub IsOurs : Run → Entry → Type 0
IsOurs r (Gave n nanos group id an (Key offset sak)) =
    (i : Install) × In i (installs r) × (i.id ≡ id) × (i.an ≡ an) × (i.sak ≡ sak)
IsOurs r (Showed n nanos group id an) = Unit {0}
IsOurs r _ = ⊥

abbrev pub AreOurs : Run → List Entry → Type 0
AreOurs r [] = Unit {0}
AreOurs r (entry ∷ told) = IsOurs r entry × AreOurs r told

-- a key is told, with an offset under which frames are opened
pub record Tells (told : List Entry) (i : Install) : Type 0 where
  pub packet : ℕ
  pub nanos : ℕ
  pub offset : ConfidentialityOffset
  pub there : In (Gave packet nanos 1 i.id i.an (Key offset i.sak)) told
  pub opens : is_open offset ≡ true

told-number : (told : List Entry) (n nanos group : ℕ) (id : KeyId) (an : AssociationNumber)
    (offset : ConfidentialityOffset) (sak : Secret) → In (Gave n nanos group id an (Key offset sak)) told
    → (m : ℕ) × (number_in (keys told) sak ≡ Some m)
told-number [] n nanos group id an offset sak there = elim there [ ]
told-number (entry ∷ told) n nanos group id an offset sak (inl same) =
    subst (λ e. (m : ℕ) × (number_in (keys (e ∷ told)) sak ≡ Some m)) same (number-new (keys told) sak)
told-number (entry ∷ told) n nanos group id an offset sak (inr there) =
    let r = told-number told n nanos group id an offset sak there in
    (r.0, number-stays told entry sak r.0 r.1)

or-second : (a b : Bool) → b ≡ true → (a || b) ≡ true
or-second true b e = refl
or-second false b e = e

some-one : {A : Type 0} {a b : A} → Some a ≡ Some b → a ≡ b
some-one e = cc e

told-here : (told : List Entry) (n nanos group : ℕ) (id : KeyId) (an : AssociationNumber)
    (offset : ConfidentialityOffset) (sak : Secret) (m : ℕ) → is_open offset ≡ true
    → number_in (keys (Gave n nanos group id an (Key offset sak) ∷ told)) sak ≡ Some m
    → is_told (Gave n nanos group id an (Key offset sak) ∷ told) Any an m ≡ true
told-here told n nanos group id an offset sak m whole e =
    rw (whole, same-an-itself an, e, eq-eqb m m refl) refl

is-told : (told : List Entry) (n nanos group : ℕ) (id : KeyId) (an : AssociationNumber)
    (offset : ConfidentialityOffset) (sak : Secret) (m : ℕ) → is_open offset ≡ true
    → In (Gave n nanos group id an (Key offset sak)) told → number_in (keys told) sak ≡ Some m
    → is_told told Any an m ≡ true
is-told [] n nanos group id an offset sak m whole there e = elim there [ ]
is-told (entry ∷ told) n nanos group id an offset sak m whole (inl same) e =
    subst (λ w. is_told (w ∷ told) Any an m ≡ true) same
    (told-here told n nanos group id an offset sak m whole
    (subst (λ w. number_in (keys (w ∷ told)) sak ≡ Some m) (sym same) e))
is-told (entry ∷ told) n nanos group id an offset sak m whole (inr there) e =
    let r = told-number told n nanos group id an offset sak there in
    let one : r.0 ≡ m = some-one (sym (number-stays told entry sak r.0 r.1) ∙ e) in
    or-second (is_for Any an entry && is_it (number_told told entry) m) (is_told told Any an m)
    (is-told told n nanos group id an offset sak m whole there (r.1 ∙ ap (λ n. Some n) one))

-- ---- which numbers are known

in-greatest : (passes : ℕ → Bool) (n m : ℕ) → 1 ≤ m → m ≤ n → passes m ≡ true
    → In m (greatest_first passes n)
in-greatest passes zero m low high ok = absurd (omega (arith, low, high))
in-greatest passes (suc n) m low high ok =
    cases (cases_eq m (suc n)) (λ less. in-greatest passes n m low less ok)
  where
    older : (b : Bool) → In m (greatest_first passes n)
        → In m (cond b (suc n ∷ greatest_first passes n) (greatest_first passes n))
    older true i = inr i
    older false i = i

    cases : (m ≡ suc n) ⊎ (m ≡ suc n → ⊥) → (m ≤ n → In m (greatest_first passes n))
        → In m (greatest_first passes (suc n))
    cases (inl same) rest = rw (ap passes (sym same) ∙ ok) (inl same)
    cases (inr apart) rest = older (passes (suc n)) (rest (omega (arith, high, apart)))

greatest-passes : (passes : ℕ → Bool) (n m : ℕ) → In m (greatest_first passes n) → passes m ≡ true
greatest-passes passes zero m i = elim i [ ]
greatest-passes passes (suc n) m i = go (passes (suc n)) refl i (greatest-passes passes n m)
  where
    go : (b : Bool) → passes (suc n) ≡ b
        → In m (cond b (suc n ∷ greatest_first passes n) (greatest_first passes n))
        → (In m (greatest_first passes n) → passes m ≡ true) → passes m ≡ true
    go true is (inl same) rest = ap passes same ∙ is
    go true is (inr later) rest = rest later
    go false is later rest = rest later

or-either : (a b : Bool) → (a || b) ≡ true → (a ≡ true) ⊎ (b ≡ true)
or-either true b e = inl refl
or-either false b e = inr e

it-is : (o : Option ℕ) (n : ℕ) → is_it o n ≡ true → o ≡ Some n
it-is None n e = absurd (true≢false (sym e))
it-is (Some m) n e = ap (λ k. Some k) (eqb-true m n e)

-- the key of a number
pub record HasNumber (r : Run) (told : List Entry) (m : ℕ) : Type 0 where
  pub install : Install
  pub there : In install (installs r)
  pub number : number_in (keys told) install.sak ≡ Some m

number-here : (r : Run) (told : List Entry) (entry : Entry) (m : ℕ) → IsOurs r entry
    → is_it (number_told told entry) m ≡ true → HasNumber r (entry ∷ told) m
number-here r told (Gave n nanos group id an (Key offset sak)) m (i, there, ids, ans, saks) e = record {
  install = i;
  there = there;
  number = ap (number_in (keys (Gave n nanos group id an (Key offset sak) ∷ told))) saks
      ∙ it-is (number_in (keys (Gave n nanos group id an (Key offset sak) ∷ told)) sak) m e;
}
number-here r told (Gave n nanos group id an (Without why)) m ours e = elim ours [ ]
number-here r told (Showed n nanos group id an) m ours e = absurd (true≢false (sym e))
number-here r told (Set sender an sak) m ours e = elim ours [ ]
number-here r told (Strange sci) m ours e = elim ours [ ]

told-key : (r : Run) (told : List Entry) (who : Sender) (an : AssociationNumber) (m : ℕ)
    → AreOurs r told → is_told told who an m ≡ true → HasNumber r told m
told-key r [] who an m ours e = absurd (true≢false (sym e))
told-key r (entry ∷ told) who an m ours e =
    elim (or-either (is_for who an entry && is_it (number_told told entry) m) (is_told told who an m) e) [
      | inl here ↦ number-here r told entry m ours.0
          ((and_parts (is_for who an entry) (is_it (number_told told entry) m) here).1)
      | inr later ↦ let h = told-key r told who an m ours.1 later in record {
        install = h.install;
        there = h.there;
        number = number-stays told entry h.install.sak m h.number;
      }
    ]

pub known-key : (r : Run) (told : List Entry) (sci : Sci) (an : AssociationNumber) (m : ℕ)
    → AreOurs r told → In m (known told sci an) → HasNumber r told m
known-key r told sci an m ours there =
    elim (or-either (is_told told Any an m) (is_told told (One sci) an m)
    (greatest-passes (λ n. is_told told Any an n || is_told told (One sci) an n) (length (keys told)) m
    there)) [
      | inl any ↦ told-key r told Any an m ours any
      | inr one ↦ told-key r told (One sci) an m ours one
    ]

-- a key that is told is known to each sender
pub is-known : (told : List Entry) (sci : Sci) (i : Install) (t : Tells told i)
    → (m : ℕ) × (number_in (keys told) i.sak ≡ Some m) × In m (known told sci i.an)
is-known told sci i t =
    let n = told-number told t.packet t.nanos 1 i.id i.an t.offset i.sak t.there in
    let within = in-within (keys told) i.sak n.0 n.1 in
    let low = within.0 in
    let said = is-told told t.packet t.nanos 1 i.id i.an t.offset i.sak n.0 t.opens t.there n.1 in (
      n.0,
      n.1,
      in-greatest (λ n. is_told told Any i.an n || is_told told (One sci) i.an n) (length (keys told)) n.0
          (omega (arith, low)) within.1 (ap (λ b. b || is_told told (One sci) i.an n.0) said),
    )
