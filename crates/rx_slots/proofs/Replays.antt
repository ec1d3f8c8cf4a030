-- Nothing is accepted twice under a key that stands.
use Rattle.std.proofs.Common.{◌≡◌, ◌≢◌, ℕ, ◌+◌, ◌≤◌, ◌==◌, ◌||◌, ◌&&◌, Bool, true, false, not, cond, max, List, [], ◌∷◌, ◌++◌, Option, Some, None, Result, Ok, refl, sym, ap, ◌∙◌, subst, arith}
use Rattle.std.proofs.lemmas.Bool.{lt-ltb}
use Rattle.std.specs.List.{filter}
use Rattle.aes_block.specs.declared.secret.Secret.{Secret}
use Rattle.aes_block.specs.Secrets.{secret_octets}
use Rattle.lan_base.specs.declared.association_number.AssociationNumber.{AssociationNumber}
use Rattle.lan_base.specs.declared.address.Sci.{Sci}
use Rattle.gcm_frames.specs.declared.tag.Tag.{Tag}
use Rattle.gcm_frames.specs.declared.tag.TagRefusal.{TagRefusal}
use Rattle.gcm_frames.specs.Tags.{tag_fields}
use Rattle.gcm_frames.specs.Sealed.{opened}
use Rattle.rx_slots.specs.declared.arrival.Checked.{Checked}
use Rattle.rx_slots.specs.declared.arrival.Checked.TheVariants.{Malformed, Own, Missed, BadCheck, Sealed}
use Rattle.rx_slots.specs.declared.arrival.Arrival.TheVariants as arrival_is
use Rattle.rx_slots.specs.Histories.{Receiving, installed, removed, heard, standing_key, IsQuiet}
use Rattle.lan_base.specs.Identifiers.{same_sci}
use Rattle.rx_slots.specs.Answers.{checked, checked_fields, checked_under, checked_data}
use Rattle.rx_slots.specs.Numbers.{Taken, is_under, is_of, is_late, next_number, taken, accepted, admitted, answer}
use Rattle.rx_slots.proofs.Numbering.{other_an, same_an-itself}
use Rattle.rx_slots.proofs.Identifiers.{by_test, same_sci-itself}
use Rattle.rx_slots.proofs.Lists.{next-ended, next-more}

-- ---- the key that stands

pub still_stands : (an : AssociationNumber) (between h : List Receiving) → IsQuiet an between → standing_key (between ++ h) an ≡ standing_key h an
still_stands an [] h q = refl
still_stands an (installed n secret ∷ between) h q =
    ap (λ (b : Bool). cond b (Some secret) (standing_key (between ++ h) an)) (other_an n an q.0) ∙ still_stands an between h q.1
still_stands an (removed n ∷ between) h q =
    ap (λ (b : Bool). cond b None (standing_key (between ++ h) an)) (other_an n an q.0) ∙ still_stands an between h q.1
still_stands an (heard frame ∷ between) h q = still_stands an between h q

-- what is checked of a frame depends on the key under its association number alone
checked_same : (own : Sci) (k l : AssociationNumber → Option Secret) (frame : List ℕ) (tag : Tag) (r : Result Tag TagRefusal) → r ≡ Ok tag → k tag.an ≡ l tag.an
    → checked_fields own k frame r ≡ checked_fields own l frame r
checked_same own k l frame tag r e same =
    ap (checked_fields own k frame) e
    ∙ ap (λ (o : Option Secret). cond (same_sci tag.sci own) Own (checked_under o tag frame)) same
    ∙ sym (ap (checked_fields own l frame) e)

data_of : (tag : Tag) (o : Option (List ℕ)) (sci : Sci) (an : AssociationNumber) (pn : ℕ) (body : List ℕ) → checked_data tag o ≡ Sealed sci an pn body → tag.an ≡ an
data_of tag None sci an pn body h = absurd (cc)
data_of tag (Some user) sci an pn body h = cc

under_of : (b : Bool) (o : Option Secret) (tag : Tag) (frame : List ℕ) (sci : Sci) (an : AssociationNumber) (pn : ℕ) (body : List ℕ)
    → cond b Own (checked_under o tag frame) ≡ Sealed sci an pn body → tag.an ≡ an
under_of true o tag frame sci an pn body h = absurd (cc)
under_of false None tag frame sci an pn body h = absurd (cc)
under_of false (Some secret) tag frame sci an pn body h = data_of tag (opened (secret_octets secret) tag frame) sci an pn body h

an_of : (own : Sci) (keys : AssociationNumber → Option Secret) (frame : List ℕ) (tag : Tag) (sci : Sci) (an : AssociationNumber) (pn : ℕ) (body : List ℕ)
    → tag_fields frame ≡ Ok tag → checked own keys frame ≡ Sealed sci an pn body → tag.an ≡ an
an_of own keys frame tag sci an pn body e h =
    under_of (same_sci tag.sci own) (keys tag.an) tag frame sci an pn body (sym (ap (checked_fields own keys frame) e) ∙ h)

-- ---- next numbers don't fall

one_more : (a : Bool) (n x : ℕ) → x ≤ cond a (max n x) x
one_more true n x = omega arith
one_more false n x = omega arith

rises_by : (past : List Taken) (t : Taken) (n : AssociationNumber) (q : Sci) → next_number past n q ≤ next_number (t ∷ past) n q
rises_by past t n q = omega (arith, next-more past t n q, one_more (is_of n q t) (t.pn + 1) (next_number past n q))

rises : (window : ℕ) (past : List Taken) (c : Checked) (n : AssociationNumber) (q : Sci) → next_number past n q ≤ next_number (taken window past c) n q
rises window past (Malformed refusal) n q = omega arith
rises window past Own n q = omega arith
rises window past (Missed an) n q = omega arith
rises window past BadCheck n q = omega arith
rises window past (Sealed sci an pn body) n q =
    by_test (is_late window (next_number past an sci) pn)
    (λ late. subst (λ (b : Bool). next_number past n q ≤ next_number (cond b past (record { an = an; sci = sci; pn = pn } ∷ past)) n q) (sym late) (omega arith))
    (λ late. subst (λ (b : Bool). next_number past n q ≤ next_number (cond b past (record { an = an; sci = sci; pn = pn } ∷ past)) n q) (sym late) (rises_by past (record { an = an; sci = sci; pn = pn }) n q))

kept : (past : List Taken) (m n : AssociationNumber) (q : Sci) → m ≢ n → next_number (filter (λ t. not (is_under m t)) past) n q ≡ next_number past n q
kept past m n q h = next-ended past m n q ∙ ap (λ (b : Bool). cond b 1 (next_number past n q)) (other_an m n h)

pub still_high : (own : Sci) (window : ℕ) (n : AssociationNumber) (q : Sci) (between h : List Receiving) → IsQuiet n between
    → next_number (accepted own window h) n q ≤ next_number (accepted own window (between ++ h)) n q
still_high own window n q [] h quiet = omega arith
still_high own window n q (installed m secret ∷ between) h quiet =
    omega (arith, kept (accepted own window (between ++ h)) m n q quiet.0, still_high own window n q between h quiet.1)
still_high own window n q (removed m ∷ between) h quiet =
    omega (arith, kept (accepted own window (between ++ h)) m n q quiet.0, still_high own window n q between h quiet.1)
still_high own window n q (heard frame ∷ between) h quiet =
    let before : next_number (accepted own window h) n q ≤ next_number (accepted own window (between ++ h)) n q = still_high own window n q between h quiet in
    omega (arith, before, rises window (accepted own window (between ++ h)) (checked own (standing_key (between ++ h)) frame) n q)

-- ---- an accepted frame

-- what was checked of a frame that was accepted
record Was (window : ℕ) (past : List Taken) (c : Checked) (pn : ℕ) (body : List ℕ) : Type 0 where
  sci : Sci
  an : AssociationNumber
  right : c ≡ Sealed sci an pn body
  timely : is_late window (next_number past an sci) pn ≡ false

timely_from : (window : ℕ) (past : List Taken) (sci : Sci) (an : AssociationNumber) (n pn : ℕ) (user body : List ℕ) (b : Bool) → b ≡ is_late window (next_number past an sci) n
    → cond b (arrival_is.Late (next_number past an sci)) (arrival_is.Accepted n user) ≡ arrival_is.Accepted pn body
    → Was window past (Sealed sci an n user) pn body
timely_from window past sci an n pn user body true e h = absurd (cc)
timely_from window past sci an n pn user body false e h =
    let number : n ≡ pn = cc in
    let same : user ≡ body = cc in
    record {
      sci = sci;
      an = an;
      right = λ i. Sealed sci an (number i) (same i);
      timely = ap (is_late window (next_number past an sci)) (sym number) ∙ sym e;
    }

was : (window : ℕ) (past : List Taken) (c : Checked) (pn : ℕ) (body : List ℕ) → admitted window past c ≡ arrival_is.Accepted pn body → Was window past c pn body
was window past (Malformed refusal) pn body h = absurd (cc)
was window past Own pn body h = absurd (cc)
was window past (Missed an) pn body h = absurd (cc)
was window past BadCheck pn body h = absurd (cc)
was window past (Sealed sci an n user) pn body h =
    timely_from window past sci an n pn user body (is_late window (next_number past an sci) n) refl h

late_now : (next pn : ℕ) → pn + 1 ≤ next → is_late 0 next pn ≡ true
late_now next pn h = ap (λ (b : Bool). (pn == 0) || b) (lt-ltb (pn + 0) next (omega arith)) ∙ or_true (pn == 0)
  where
    or_true : (b : Bool) → (b || true) ≡ true
    or_true true = refl
    or_true false = refl

pub never_again : (own : Sci) (h between : List Receiving) (frame body : List ℕ) (tag : Tag) (pn : ℕ)
    → tag_fields frame ≡ Ok tag → IsQuiet tag.an between → answer own 0 h frame ≡ arrival_is.Accepted pn body
    → (next : ℕ) × (answer own 0 (between ++ heard frame ∷ h) frame ≡ arrival_is.Late next)
never_again own h between frame body tag pn e quiet accept =
    let past : List Taken = accepted own 0 h in
    let w = was 0 past (checked own (standing_key h) frame) pn body accept in
    let number : tag.an ≡ w.an = an_of own (standing_key h) frame tag w.sci w.an pn body e w.right in
    let later : List Receiving = between ++ heard frame ∷ h in
    let next : ℕ = next_number (accepted own 0 later) w.an w.sci in
    let one : Taken = record { an = w.an; sci = w.sci; pn = pn } in
    let again : checked own (standing_key later) frame ≡ Sealed w.sci w.an pn body =
    checked_same own (standing_key later) (standing_key h) frame tag (tag_fields frame) e (still_stands tag.an between (heard frame ∷ h) quiet) ∙ w.right in
    let took : accepted own 0 (heard frame ∷ h) ≡ one ∷ past =
    ap (taken 0 past) w.right ∙ ap (λ (b : Bool). cond b past (one ∷ past)) w.timely in
    let own_kind : is_of w.an w.sci one ≡ true = λ i. same_an-itself w.an i && same_sci-itself w.sci i in
    let high : next_number (accepted own 0 (heard frame ∷ h)) w.an w.sci ≡ max (pn + 1) (next_number past w.an w.sci) =
    ap (λ (ts : List Taken). next_number ts w.an w.sci) took ∙ next-more past one w.an w.sci
    ∙ ap (λ (b : Bool). cond b (max (pn + 1) (next_number past w.an w.sci)) (next_number past w.an w.sci)) own_kind in
    let kept_high : next_number (accepted own 0 (heard frame ∷ h)) w.an w.sci ≤ next =
    still_high own 0 w.an w.sci between (heard frame ∷ h) (subst (λ (n : AssociationNumber). IsQuiet n between) number quiet) in (
      next,
      ap (admitted 0 (accepted own 0 later)) again
          ∙ ap (λ (b : Bool). cond b (arrival_is.Late next) (arrival_is.Accepted pn body)) (late_now next pn (omega (arith, high, kept_high))),
    )
