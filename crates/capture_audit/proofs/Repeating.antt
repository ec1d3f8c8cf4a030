-- A packet once more, directly behind itself as the last one: it tells what it told.
use Rattle.std.proofs.Common.{◌≡◌, ◌≢◌, ◌∙◌, ◌<◌, ◌≤◌, ◌+◌, ◌⊎◌, inl, inr, ℕ, suc, Bool, true, false, cond, List, [], ◌∷◌, ◌++◌, length, Option, Some, None, refl, sym, ap, arith}
use Rattle.std.specs.Prelude.{option_map, ◌&&◌, ◌==◌}
use Rattle.std.proofs.lemmas.Bool.{cases_lt, eq-eqb, ne_eqb}
use Rattle.std.proofs.lemmas.Cmp.{nat_list_eq_equiv}
use Rattle.aes_block.specs.declared.secret.Secret.{Secret}
use Rattle.aes_block.specs.Secrets.{same_secret}
use Rattle.aes_block.proofs.Public.{same_secret-itself}
use Rattle.capture_packets.specs.Packets.{Seen}
use Rattle.key_ring.specs.Rings.{Ring}
use Rattle.key_ring.specs.declared.ring.HandKey.{HandKey}
use Rattle.known_keys.specs.History.{Entry, Gave, Set, keys}
use Rattle.known_keys.specs.Known.{number_told}
use Rattle.known_keys.specs.Numbered.{number_from, number_in, with_key, with_number}
use Rattle.known_keys.specs.OneKey.{given, given_or, gives, same_id, same_named}
use Rattle.known_keys.specs.declared.giving.Giving.{Giving}
use Rattle.known_keys.specs.declared.giving.Giving.TheVariants.{Key, Without}
use Rattle.known_keys.specs.declared.named.Named.{Named}
use Rattle.lan_base.specs.AssociationNumbers.{same_an}
use Rattle.lan_base.specs.declared.association_number.AssociationNumber.{AssociationNumber}
use Rattle.lan_base.specs.declared.association_number.AssociationNumber.TheVariants as ans
use Rattle.lan_base.specs.declared.key_id.KeyId.{KeyId}
use Rattle.least_pairs.specs.Pairs.{Noted}
use Rattle.packet_verdicts.specs.declared.given.Gift.{Gift}
use Rattle.packet_verdicts.specs.declared.given.Shown.{Shown}
use Rattle.packet_verdicts.specs.declared.given.ShownKeys.{ShownKeys}
use Rattle.packet_verdicts.specs.declared.kind.Kind.{Kind}
use Rattle.packet_verdicts.specs.declared.kind.Kind.TheVariants as kinds
use Rattle.packet_verdicts.specs.declared.kind.Mka.TheVariants as mkas
use Rattle.packet_verdicts.specs.declared.kind.Sec.TheVariants as secs
use Rattle.packet_verdicts.specs.Frames.{frame_of}
use Rattle.packet_verdicts.specs.Given.{shown_keys}
use Rattle.use_notes.specs.declared.frame.RightFrame.{RightFrame}
use Rattle.use_notes.specs.Frames.{same_check}
use Rattle.use_notes.specs.Once.{Number, noted, number_of}
use Rattle.capture_audit.specs.Before.{Unwrapped, entries, entries_by, frame_by, frames, gift_entries, giving_by, kind_in, mkpdu_entries, number_behind, right_frame, right_key, right_under, set_behind, shown_entries, with_some}
use Rattle.capture_audit.specs.Laws.{once_more}
use Rattle.capture_audit.proofs.Behind.{mkpdu-behind, mkpdu-keys}
use Rattle.capture_audit.proofs.FrontTold.{IsOfNumber, noted-ends, noted-past, right-number}

-- ---- what is told twice

-- the packet of a number tells once more what the one before it told, which was the last
pub record IsRepeated (K V : Type 0) (n : ℕ) (before now : Noted K V) : Type 0 where
  pub same : (m : ℕ) → m ≢ n + 1 → now m ≡ before m
  pub again : now (n + 1) ≡ before n
  pub ends : (m : ℕ) (kv : K × V) → before m ≡ Some kv → m ≤ n

pub some-is : {X : Type 0} {x y : X} → Some x ≡ Some y → x ≡ y
some-is e = cc e

pub none-past : {X : Type 0} (told : ℕ → Option X) (n : ℕ) → ((m : ℕ) (x : X) → told m ≡ Some x → m ≤ n)
    → (m : ℕ) → n < m → told m ≡ None
none-past {X} told n ends m past = go (told m) refl
  where
    go : (o : Option X) → told m ≡ o → told m ≡ None
    go None e = e
    go (Some x) e = let most = ends m x e in absurd (omega (arith, most, past))

-- ---- right frames

pub list-itself : (a : List ℕ) → same_check a a ≡ true
list-itself a = nat_list_eq_equiv.refl a

-- a frame in a packet of another number and time
abbrev pub in_packet : ℕ → ℕ → RightFrame → RightFrame
in_packet n time e = record e { packet = n; time = time }

pub frame-under : (then time : ℕ) (make again : ℕ → RightFrame) → ((key : ℕ) → again key ≡ in_packet then time (make key)) → (o : Option ℕ)
    → option_map again o ≡ option_map (in_packet then time) (option_map make o)
frame-under then time make again is None = refl
frame-under then time make again is (Some key) = ap (λ (e : RightFrame). Some e) (is key)

module _ (told : List Entry) (n then nanos : ℕ) (gift : Option Gift) (packet again : Seen) (same : again.octets ≡ packet.octets) where
  frame-again : (k : Kind) → frame_by (entries_by n nanos gift k ++ told) then again k
      ≡ option_map (in_packet then again.head.nanos) (frame_by told n packet k)
  frame-again kinds.Foreign = refl
  frame-again kinds.Other = refl
  frame-again (kinds.Mka mka) = refl
  frame-again (kinds.Sec secs.Cut) = refl
  frame-again (kinds.Sec (secs.Malformed why)) = refl
  frame-again (kinds.Sec (secs.Protected tag check)) =
      ap (λ (octets : List ℕ). option_map (right_under then again.head.nanos tag check) (right_key told tag (frame_of octets))) same
      ∙ frame-under then again.head.nanos (right_under n packet.head.nanos tag check) (right_under then again.head.nanos tag check)
      (λ key. refl) (right_key told tag (frame_of packet.octets))

pub noted-here : (e : RightFrame) (h : List RightFrame) (m : ℕ) → m ≡ e.packet → noted (e ∷ h) m ≡ Some (number_of e, e.check)
noted-here e h m same = ap (λ b. cond b (Some (number_of e, e.check)) (noted h m)) (eq-eqb m e.packet same)

noted-again : (n then time : ℕ) (o : Option RightFrame) (h : List RightFrame) → then ≡ n + 1 → IsOfNumber n o
    → noted h n ≡ None → noted h then ≡ None
    → noted (with_some (option_map (in_packet then time) o) (with_some o h)) then ≡ noted (with_some o h) n
noted-again n then time None h next is none past = past ∙ sym none
noted-again n then time (Some e) h next is none past =
    noted-here (in_packet then time e) (e ∷ h) then refl ∙ sym (noted-here e h n (sym is))

module _ (ring : Ring) (before : List Unwrapped) (u : Unwrapped) (time : ℕ) (untimed : Bool) where
  abbrev again : Unwrapped
  again = once_more time untimed u

  abbrev here : ℕ
  here = number_behind before

  abbrev next : ℕ
  next = number_behind (u ∷ before)

  next-is : next ≡ here + 1
  next-is = omega arith

  pub once-repeated : IsRepeated Number (List ℕ) here (noted (frames ring (u ∷ before))) (noted (frames ring (again ∷ u ∷ before)))
  once-repeated = record {
    same = λ m apart. noted-past next (right_frame ring (u ∷ before) again) (frames ring (u ∷ before))
        (right-number ring (u ∷ before) again) m (λ e. apart (e ∙ next-is));
    again =
        ap (λ m. noted (frames ring (again ∷ u ∷ before)) m) (sym next-is)
        ∙ ap (λ (o : Option RightFrame). noted (with_some o (frames ring (u ∷ before))) next)
        (frame-again (entries ring before) here next u.packet.head.nanos u.gift u.packet again.packet refl (kind_in ring u))
        ∙ noted-again here next time (right_frame ring before u) (frames ring before) next-is (right-number ring before u)
        (past here (omega arith)) (past next (omega arith));
    ends = λ m kv is. let low = noted-ends ring (u ∷ before) m kv is in omega (arith, low);
  }
    where
      past : (m : ℕ) → length before < m → noted (frames ring before) m ≡ None
      past m more = none-past (noted (frames ring before)) (length before) (λ m kv is. noted-ends ring before m kv is) m more

-- ---- keys that are given

given-shown : (n nanos group : ℕ) (shown : Option Shown) (told : List Entry) (m : ℕ)
    → given (shown_entries n nanos group shown ++ told) m ≡ given told m
given-shown n nanos group None told m = refl
given-shown n nanos group (Some shown) told m = refl

pub given-mkpdu : (n nanos group : ℕ) (shown : ShownKeys) (gift : Option Gift) (told : List Entry) (m : ℕ)
    → given (mkpdu_entries n nanos group shown gift ++ told) m ≡ given (gift_entries n nanos group gift ++ told) m
given-mkpdu n nanos group shown gift told m =
    ap (λ (es : List Entry). given es m) (mkpdu-behind n nanos group shown gift told)
    ∙ given-shown n nanos group shown.old (shown_entries n nanos group shown.latest ++ (gift_entries n nanos group gift ++ told)) m
    ∙ given-shown n nanos group shown.latest (gift_entries n nanos group gift ++ told) m

or-other : (n m : ℕ) (o : Option ℕ) (it : ℕ → KeyId × Named) (earlier : Option (KeyId × Named)) → m ≢ n
    → given_or (option_map (λ key. (n, it key)) o) m earlier ≡ earlier
or-other n m None it earlier apart = refl
or-other n m (Some key) it earlier apart = ap (λ b. cond b (Some (it key)) earlier) (ne_eqb n m (λ e. apart (sym e)))

or-here : (n then : ℕ) (o : Option ℕ) (it : ℕ → KeyId × Named) (was is : Option (KeyId × Named)) → was ≡ None → is ≡ None
    → given_or (option_map (λ key. (then, it key)) o) then is ≡ given_or (option_map (λ key. (n, it key)) o) n was
or-here n then None it was is none past = past ∙ sym none
or-here n then (Some key) it was is none past =
    ap (λ b. cond b (Some (it key)) is) (eq-eqb then then refl) ∙ sym (ap (λ b. cond b (Some (it key)) was) (eq-eqb n n refl))

gave-other : (n nanos group : ℕ) (id : KeyId) (an : AssociationNumber) (what : Giving) (told : List Entry) (m : ℕ) → m ≢ n
    → given (Gave n nanos group id an what ∷ told) m ≡ given told m
gave-other n nanos group id an (Without why) told m apart = refl
gave-other n nanos group id an (Key offset sak) told m apart =
    or-other n m (number_told told (Gave n nanos group id an (Key offset sak))) (λ key. (id, record { an = an; key = key })) (given told m) apart

gift-other : (n nanos group : ℕ) (gift : Option Gift) (told : List Entry) (m : ℕ) → m ≢ n
    → given (gift_entries n nanos group gift ++ told) m ≡ given told m
gift-other n nanos group None told m apart = refl
gift-other n nanos group (Some gift) told m apart =
    gave-other n nanos group gift.id gift.an (giving_by gift.offset gift.sak) told m apart

pub by-other : (n nanos : ℕ) (gift : Option Gift) (k : Kind) (told : List Entry) (m : ℕ) → m ≢ n
    → given (entries_by n nanos gift k ++ told) m ≡ given told m
by-other n nanos gift (kinds.Mka (mkas.Right group s)) told m apart =
    given-mkpdu n nanos group (shown_keys s.announcement.uses) gift told m ∙ gift-other n nanos group gift told m apart
by-other n nanos gift (kinds.Mka (mkas.Unknown ckn sci gives)) told m apart = refl
by-other n nanos gift _ told m apart = refl

-- a key that stands last is one of the keys
among : (n : ℕ) (ks : List Secret) (sak : Secret) → (number : ℕ) × (number_from n (ks ++ sak ∷ []) sak ≡ Some number)
among n [] sak = (n, ap (λ b. cond b (Some n) None) (same_secret-itself sak))
among n (k ∷ ks) sak = go (same_secret k sak) (among (suc n) ks sak)
  where
    go : (b : Bool) → (number : ℕ) × (number_from (suc n) (ks ++ sak ∷ []) sak ≡ Some number)
        → (number : ℕ) × (cond b (Some n) (number_from (suc n) (ks ++ sak ∷ []) sak) ≡ Some number)
    go true later = (n, refl)
    go false later = later

-- a key that is one of the keys already makes none
pub key-twice : (ks : List Secret) (sak : Secret) → with_key (with_key ks (Some sak)) (Some sak) ≡ with_key ks (Some sak)
key-twice ks sak = go (number_in ks sak) refl
  where
    kept : (ks : List Secret) (n : ℕ) → number_in ks sak ≡ Some n → with_key ks (Some sak) ≡ ks
    kept ks n e = ap (λ (o : Option ℕ). with_number ks sak o) e

    go : (o : Option ℕ) → number_in ks sak ≡ o → with_key (with_key ks (Some sak)) (Some sak) ≡ with_key ks (Some sak)
    go (Some n) e = ap (λ (them : List Secret). with_key them (Some sak)) (kept ks n e)
    go None e =
        let with-it : with_key ks (Some sak) ≡ ks ++ sak ∷ [] = ap (λ (o : Option ℕ). with_number ks sak o) e in
        let there = among 1 ks sak in
        ap (λ (them : List Secret). with_key them (Some sak)) with-it ∙ kept (ks ++ sak ∷ []) there.0 there.1 ∙ sym with-it

gave-again : (n then nanos time group : ℕ) (id : KeyId) (an : AssociationNumber) (what : Giving) (told now : List Entry)
    → keys now ≡ keys (Gave n nanos group id an what ∷ told) → given told n ≡ None → given now then ≡ None
    → given (Gave then time group id an what ∷ now) then ≡ given (Gave n nanos group id an what ∷ told) n
gave-again n then nanos time group id an (Without why) told now same none past = past ∙ sym none
gave-again n then nanos time group id an (Key offset sak) told now same none past =
    let number : number_told now (Gave then time group id an (Key offset sak)) ≡ number_told told (Gave n nanos group id an (Key offset sak)) =
    ap (λ (ks : List Secret). number_in ks sak) (ap (λ (ks : List Secret). with_key ks (Some sak)) same ∙ key-twice (keys told) sak) in
    let it : ℕ → KeyId × Named = λ key. (id, record { an = an; key = key }) in
    ap (λ (o : Option ℕ). given_or (option_map (λ key. (then, it key)) o) then (given now then)) number
    ∙ or-here n then (number_told told (Gave n nanos group id an (Key offset sak))) it (given told n) (given now then) none past

gift-again : (n then nanos time group : ℕ) (gift : Option Gift) (told now : List Entry)
    → keys now ≡ keys (gift_entries n nanos group gift ++ told) → given told n ≡ None → given now then ≡ None
    → given (gift_entries then time group gift ++ now) then ≡ given (gift_entries n nanos group gift ++ told) n
gift-again n then nanos time group None told now same none past = past ∙ sym none
gift-again n then nanos time group (Some gift) told now same none past =
    gave-again n then nanos time group gift.id gift.an (giving_by gift.offset gift.sak) told now same none past

by-again : (n then nanos time : ℕ) (gift : Option Gift) (k : Kind) (told : List Entry) → given told n ≡ None
    → given (entries_by n nanos gift k ++ told) then ≡ None
    → given (entries_by then time gift k ++ (entries_by n nanos gift k ++ told)) then ≡ given (entries_by n nanos gift k ++ told) n
by-again n then nanos time gift (kinds.Mka (mkas.Right group s)) told none past =
    let shown = shown_keys s.announcement.uses in
    let now = mkpdu_entries n nanos group shown gift ++ told in
    given-mkpdu then time group shown gift now then
    ∙ gift-again n then nanos time group gift told now (mkpdu-keys n nanos group shown gift told) none past
    ∙ sym (given-mkpdu n nanos group shown gift told n)
by-again n then nanos time gift (kinds.Mka (mkas.Unknown ckn sci gives)) told none past = past ∙ sym none
by-again n then nanos time gift (kinds.Mka mkas.Cut) told none past = past ∙ sym none
by-again n then nanos time gift (kinds.Mka (mkas.Dropped refusal)) told none past = past ∙ sym none
by-again n then nanos time gift (kinds.Mka (mkas.Wrong gives)) told none past = past ∙ sym none
by-again n then nanos time gift kinds.Foreign told none past = past ∙ sym none
by-again n then nanos time gift kinds.Other told none past = past ∙ sym none
by-again n then nanos time gift (kinds.Sec sec) told none past = past ∙ sym none

-- no packet gives a key that does not stand among them
set-given : (told : List Entry) (hand : List HandKey) (m : ℕ) → given (set_behind told hand) m ≡ given told m
set-given told [] m = refl
set-given told (key ∷ later) m = set-given (Set key.sender key.an key.sak ∷ told) later m

given-past : (ring : Ring) (packets : List Unwrapped) (m : ℕ) → length packets < m → given (entries ring packets) m ≡ None
given-past ring [] m more = set-given [] ring.hand m
given-past ring (u ∷ before) m more =
    by-other (number_behind before) u.packet.head.nanos u.gift (kind_in ring u) (entries ring before) m (λ e. omega (arith, e, more))
    ∙ given-past ring before m (omega (arith, more))

given-within : (ring : Ring) (packets : List Unwrapped) (m : ℕ) (kv : KeyId × Named) → given (entries ring packets) m ≡ Some kv
    → m ≤ length packets
given-within ring packets m kv is = go (cases_lt (length packets) m)
  where
    go : (length packets < m) ⊎ (m ≤ length packets) → m ≤ length packets
    go (inl past) = absurd (cc (sym (given-past ring packets m past) ∙ is))
    go (inr within) = within

-- ---- one key

an-itself : (an : AssociationNumber) → same_an an an ≡ true
an-itself ans.An0 = refl
an-itself ans.An1 = refl
an-itself ans.An2 = refl
an-itself ans.An3 = refl

both-true : (a b : Bool) → a ≡ true → b ≡ true → (a && b) ≡ true
both-true true b first second = second
both-true false b first second = absurd (cc first)

pub named-itself : (v : Named) → same_named v v ≡ true
named-itself v = both-true (same_an v.an v.an) (v.key == v.key) (an-itself v.an) (eq-eqb v.key v.key refl)

pub id-itself : (id : KeyId) → same_id id id ≡ true
id-itself id = both-true _ (id.number == id.number) (list-itself id.server.0) (eq-eqb id.number id.number refl)

module _ (ring : Ring) (before : List Unwrapped) (u : Unwrapped) (time : ℕ) (untimed : Bool) where
  abbrev once_told : List Entry
  once_told = entries ring (u ∷ before)

  abbrev twice_told : List Entry
  twice_told = entries ring (once_more time untimed u ∷ u ∷ before)

  pub one-repeated : IsRepeated KeyId Named (number_behind before) (given once_told) (given twice_told)
  one-repeated = record {
    same = λ m apart. by-other (number_behind (u ∷ before)) time u.gift (kind_in ring u) once_told m
        (λ e. apart (e ∙ next-is ring before u time untimed));
    again =
        ap (λ m. given twice_told m) (sym (next-is ring before u time untimed))
        ∙ by-again (number_behind before) (number_behind (u ∷ before)) u.packet.head.nanos time u.gift (kind_in ring u) (entries ring before)
        (given-past ring before (number_behind before) (omega arith))
        (given-past ring (u ∷ before) (number_behind (u ∷ before)) (omega arith));
    ends = λ m kv is. let low = given-within ring (u ∷ before) m kv is in omega (arith, low);
  }
