-- What is kept of a member when one MKPDU more comes.
use Rattle.std.proofs.Common.{◌≡◌, ◌≢◌, ◌∙◌, ◌+◌, ℕ, suc, Bool, true, false, cond, List, [], ◌∷◌, length, map, Option, Some, None, min, max, refl, sym, ap, subst, arith}
use Rattle.std.specs.Prelude.{◌==◌, ◌&&◌, ◌||◌, not, nat_lt}
use Rattle.std.specs.List.{list_any}
use Rattle.std.proofs.lemmas.Bool.{ne_eqb, le-ltb}
use Rattle.lan_base.specs.declared.address.Mi.{Mi}
use Rattle.lan_base.specs.declared.address.Sci.{Sci}
use Rattle.lan_base.specs.Identifiers.{same_sci}
use Rattle.mkpdu_codec.specs.declared.peer.Peer.{Peer}
use Rattle.lan_base.specs.Instants.{is_recent}
use Rattle.member_notes.specs.Speakers.{Speaker}
use Rattle.member_notes.specs.Facts.{Test, by, is_any, is_new, is_again, has_fallen, gives_key, gives_back, serves_too, is_high, number_given, novelty_behind, lists_live, is_rival, counted, oldest_packet, times, first_sci}
use Rattle.member_notes.specs.FactsKept.{HoldsFacts, Speakers, claim_in, claim_of, greatest, speaker_at, speaker_in, speaker_of, speaker_told}
use Rattle.member_notes.specs.Mkpdus.{is_of}
use Rattle.member_notes.specs.Spoken.{Spoken}
use Rattle.member_notes.specs.inside.Hearing.{IsHeard, more_of, times_with, hears, speaker_or, rivals, rivals_kept, lists_rival}
use Rattle.member_notes.proofs.Same.{is-of, of-itself}

-- ---- those of a member with one more

by-with : (group : ℕ) (mi : Mi) (e : Spoken) (h : List Spoken) (b : Bool) → is_of group mi e.mkpdu ≡ b → (test : Test)
    → by group mi (e ∷ h) test ≡ cond (b && test h e) (e ∷ by group mi h test) (by group mi h test)
by-with group mi e h b is test =
    ap (λ c. cond (c && test h e) (e ∷ by group mi h test) (by group mi h test)) is

abbrev told_of : (Test → List Spoken) → Option Speaker
told_of chosen = speaker_of chosen (chosen is_any)

abbrev with_one : Spoken → List Spoken → (Test → List Spoken) → Test → List Spoken
with_one e h chosen test = cond (test h e) (e ∷ chosen test) (chosen test)

told-other : (group : ℕ) (mi : Mi) (e : Spoken) (h : List Spoken) → is_of group mi e.mkpdu ≡ false
    → speaker_told group mi (e ∷ h) ≡ speaker_told group mi h
told-other group mi e h is = ap told_of (λ t test. by-with group mi e h false is test t)

told-own : (e : Spoken) (h : List Spoken)
    → speaker_told e.mkpdu.group e.mkpdu.mi (e ∷ h) ≡ told_of (with_one e h (by e.mkpdu.group e.mkpdu.mi h))
told-own e h =
    ap told_of (λ t test. by-with e.mkpdu.group e.mkpdu.mi e h true (of-itself e.mkpdu) test t)

nothing : (group : ℕ) (mi : Mi) (h : List Spoken) → by group mi h is_any ≡ [] → (test : Test) → by group mi h test ≡ []
nothing group mi [] none test = refl
nothing group mi (e ∷ h) none test = go (is_of group mi e.mkpdu) refl (λ rest. nothing group mi h rest test)
  where
    go : (b : Bool) → is_of group mi e.mkpdu ≡ b → (by group mi h is_any ≡ [] → by group mi h test ≡ [])
        → by group mi (e ∷ h) test ≡ []
    go true is rest = absurd (cc (sym (by-with group mi e h true is is_any) ∙ none))
    go false is rest =
        by-with group mi e h false is test ∙ rest (sym (by-with group mi e h false is is_any) ∙ none)

-- ---- what is counted

capped : (n : ℕ) → min (suc n) 4294967295 ≡ min (min n 4294967295 + 1) 4294967295
capped n = omega arith

same-capped : (n : ℕ) → min n 4294967295 ≡ min (min n 4294967295 + 0) 4294967295
same-capped n = omega arith

counted-with : (b : Bool) (e : Spoken) (es : List Spoken) → counted (cond b (e ∷ es) es) ≡ more_of (counted es) b
counted-with true e es = capped (length es)
counted-with false e es = same-capped (length es)

some-counted : (n : ℕ) → (min (suc n) 4294967295 == 0) ≡ false
some-counted n = ne_eqb (min (suc n) 4294967295) 0 (λ is. omega (arith, is))

first-with : (e : Spoken) (es : List Spoken)
    → oldest_packet (e ∷ es) ≡ cond (counted es == 0) e.mkpdu.packet (oldest_packet es)
first-with e [] = refl
first-with e (f ∷ es) =
    ap (λ b. cond b e.mkpdu.packet (oldest_packet (f ∷ es))) (sym (some-counted (length es)))

times-with : (b : Bool) (e : Spoken) (es : List Spoken)
    → times (cond b (e ∷ es) es) ≡ times_with b e.mkpdu.packet (times es)
times-with true e es = λ t. record { count = counted-with true e es t; first = first-with e es t }
times-with false e es = refl

abbrev numbers : List Spoken → List ℕ
numbers es = map (λ e. number_given e.said.given) es

greatest-with : (b : Bool) (e : Spoken) (es : List Spoken)
    → greatest (numbers (cond b (e ∷ es) es)) ≡ cond b (max (number_given e.said.given) (greatest (numbers es))) (greatest (numbers es))
greatest-with true e es = refl
greatest-with false e es = refl

claim-with : (b : Bool) (e : Spoken) (es : List Spoken)
    → claim_of (cond b (e ∷ es) es) ≡ cond b (claim_in e) (claim_of es)
claim-with true e es = refl
claim-with false e es = refl

below-max : (n a b : ℕ) → (nat_lt n a || nat_lt n b) ≡ nat_lt n (max a b)
below-max n a b = grind arith

any-below : (n : ℕ) (ns : List ℕ) → list_any (λ m. nat_lt n m) ns ≡ nat_lt n (greatest ns)
any-below n [] = sym (le-ltb n 0 (omega arith))
any-below n (m ∷ ns) = ap (λ b. nat_lt n m || b) (any-below n ns) ∙ below-max n m (greatest ns)

-- ---- one more of a member

step : (e : Spoken) (h : List Spoken) (sci : Sci)
    → speaker_in (with_one e h (by e.mkpdu.group e.mkpdu.mi h)) sci
    ≡ hears (novelty_behind h e) (serves_too h e) (claim_in e) e (speaker_in (by e.mkpdu.group e.mkpdu.mi h) sci)
step e h sci = λ t. record {
  counts = record {
    sci = sci;
    mkpdus = counted-with true e (chosen is_any) t;
    again = counted-with (is_again h e) e (chosen is_again) t;
    given = counted-with (gives_key h e) e (chosen gives_key) t;
    fell = times-with (has_fallen h e) e (chosen has_fallen) t;
    servers = times-with (serves_too h e) e (chosen serves_too) t;
    returned = back t;
    high = times-with (is_high h e) e (chosen is_high) t;
  };
  greatest = greatest-with (gives_key h e) e (chosen gives_key) t;
  claim = claim-with (is_new h e) e (chosen is_new) t;
}
  where
    chosen : Test → List Spoken
    chosen test = by e.mkpdu.group e.mkpdu.mi h test

    back : times (with_one e h (by e.mkpdu.group e.mkpdu.mi h) gives_back)
        ≡ times_with (gives_key h e && nat_lt (number_given e.said.given) (greatest (numbers (by e.mkpdu.group e.mkpdu.mi h gives_key))))
        e.mkpdu.packet (times (by e.mkpdu.group e.mkpdu.mi h gives_back))
    back = times-with (gives_back h e) e (by e.mkpdu.group e.mkpdu.mi h gives_back)
        ∙ ap (λ b. times_with (gives_key h e && b) e.mkpdu.packet (times (by e.mkpdu.group e.mkpdu.mi h gives_back)))
        (any-below (number_given e.said.given) (numbers (by e.mkpdu.group e.mkpdu.mi h gives_key)))

abbrev heard : Spoken → List Spoken → Option Speaker → Speaker
heard e h old = hears (novelty_behind h e) (serves_too h e) (claim_in e) e (speaker_or e.said.sci old)

heard-own : (e : Spoken) (h : List Spoken)
    → speaker_told e.mkpdu.group e.mkpdu.mi (e ∷ h) ≡ Some (heard e h (speaker_told e.mkpdu.group e.mkpdu.mi h))
heard-own e h = told-own e h ∙ go (by e.mkpdu.group e.mkpdu.mi h is_any) refl
  where
    go : (us : List Spoken) → by e.mkpdu.group e.mkpdu.mi h is_any ≡ us
        → speaker_of (with_one e h (by e.mkpdu.group e.mkpdu.mi h)) (e ∷ by e.mkpdu.group e.mkpdu.mi h is_any)
        ≡ Some (heard e h (speaker_of (by e.mkpdu.group e.mkpdu.mi h) (by e.mkpdu.group e.mkpdu.mi h is_any)))
    go [] none =
        ap (λ (us : List Spoken). speaker_of (with_one e h (by e.mkpdu.group e.mkpdu.mi h)) (e ∷ us)) none
        ∙ ap Some (step e h e.said.sci
        ∙ ap (λ (chosen : Test → List Spoken). hears (novelty_behind h e) (serves_too h e) (claim_in e) e (speaker_in chosen e.said.sci))
        (λ t test. nothing e.mkpdu.group e.mkpdu.mi h none test t))
        ∙ ap (λ (us : List Spoken). Some (heard e h (speaker_of (by e.mkpdu.group e.mkpdu.mi h) us))) (sym none)
    go (f ∷ fs) some =
        ap (λ (us : List Spoken). speaker_of (with_one e h (by e.mkpdu.group e.mkpdu.mi h)) (e ∷ us)) some
        ∙ ap Some (step e h (first_sci f fs))
        ∙ ap (λ (us : List Spoken). Some (heard e h (speaker_of (by e.mkpdu.group e.mkpdu.mi h) us))) (sym some)

pub noted : (e : Spoken) (h : List Spoken) (old new : Speakers) → HoldsFacts h old
    → IsHeard (e.mkpdu.group, e.mkpdu.mi)
    (hears (novelty_behind h e) (serves_too h e) (claim_in e) e
    (speaker_or e.said.sci (speaker_at old e.mkpdu.group e.mkpdu.mi))) old new
    → HoldsFacts (e ∷ h) new
noted e h old new holds put group mi = go (is_of group mi e.mkpdu) refl
  where
    no : false ≡ true → ⊥
    no is = cc is

    own : speaker_at new e.mkpdu.group e.mkpdu.mi ≡ speaker_told e.mkpdu.group e.mkpdu.mi (e ∷ h)
    own = put.here ∙ ap (λ (o : Option Speaker). Some (heard e h o)) (holds e.mkpdu.group e.mkpdu.mi) ∙ sym (heard-own e h)

    go : (b : Bool) → is_of group mi e.mkpdu ≡ b → speaker_at new group mi ≡ speaker_told group mi (e ∷ h)
    go true is =
        let both = is-of group mi e.mkpdu is in
        subst (λ (at : ℕ × Mi). speaker_at new at.0 at.1 ≡ speaker_told at.0 at.1 (e ∷ h)) (λ t. (both.0 t, both.1 t)) own
    go false is =
        let other : (group, mi) ≢ (e.mkpdu.group, e.mkpdu.mi) = λ same.
        no (sym is ∙ ap (λ (at : ℕ × Mi). is_of at.0 at.1 e.mkpdu) same ∙ of-itself e.mkpdu) in
        put.others (group, mi) other ∙ holds group mi ∙ sym (told-other group mi e h is)

-- ---- who serves too

claim-rivals : (e last : Spoken) (b : Bool)
    → rivals e (cond b (Some (record { nanos = last.nanos; sci = last.said.sci; live = last.said.live })) None)
    ≡ (b && (is_recent last.nanos e.nanos && (not (same_sci last.said.sci e.said.sci) && lists_live e.mkpdu.mi last.said)))
claim-rivals e last true = refl
claim-rivals e last false = refl

rival-of : (e : Spoken) (ns : List Spoken) → rivals e (claim_of ns) ≡ is_rival e ns
rival-of e [] = refl
rival-of e (last ∷ ns) = claim-rivals e last last.said.server

rival-told : (e : Spoken) (h : List Spoken) (mi : Mi)
    → rivals_kept e (speaker_told e.mkpdu.group mi h) ≡ is_rival e (by e.mkpdu.group mi h is_new)
rival-told e h mi = go (by e.mkpdu.group mi h is_any) refl
  where
    go : (us : List Spoken) → by e.mkpdu.group mi h is_any ≡ us
        → rivals_kept e (speaker_of (by e.mkpdu.group mi h) (by e.mkpdu.group mi h is_any)) ≡ is_rival e (by e.mkpdu.group mi h is_new)
    go [] none =
        ap (λ (us : List Spoken). rivals_kept e (speaker_of (by e.mkpdu.group mi h) us)) none
        ∙ ap (is_rival e) (sym (nothing e.mkpdu.group mi h none is_new))
    go (f ∷ fs) some =
        ap (λ (us : List Spoken). rivals_kept e (speaker_of (by e.mkpdu.group mi h) us)) some
        ∙ rival-of e (by e.mkpdu.group mi h is_new)

pub rivals-listed : (e : Spoken) (h : List Spoken) (old : Speakers) → HoldsFacts h old
    → lists_rival old e ≡ list_any (λ p. is_rival e (by e.mkpdu.group p.mi h is_new)) e.said.live
rivals-listed e h old holds =
    ap (λ (test : Peer → Bool). list_any test e.said.live)
    (λ t p. (ap (rivals_kept e) (holds e.mkpdu.group p.mi) ∙ rival-told e h p.mi) t)
