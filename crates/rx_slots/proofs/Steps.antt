-- What each call makes of the slots stands for the history with that call in front.
use Rattle.std.proofs.Common.{◌≡◌, ℕ, ◌+◌, ◌-◌, ◌^◌, Bool, true, false, ◌&&◌, cond, max, min, List, [], ◌∷◌, Option, Some, None, option_map, Result, Ok, Err, refl, sym, ap, ◌∙◌, subst, arith}
use Rattle.std.specs.Result.{IfOk, OnOk}
use Rattle.std.specs.List.{filter}
use Rattle.aes_block.specs.declared.secret.Secret.{Secret}
use Rattle.aes_block.specs.Secrets.{secret_octets}
use Rattle.lan_base.specs.declared.association_number.AssociationNumber.{AssociationNumber}
use Rattle.lan_base.specs.AssociationNumbers.{same_an}
use Rattle.lan_base.specs.declared.address.Sci.{Sci}
use Rattle.gcm_frames.specs.declared.tag.Tag.{Tag}
use Rattle.gcm_frames.specs.declared.tag.TagRefusal.{TagRefusal}
use Rattle.gcm_frames.specs.Tags.{tag_fields}
use Rattle.gcm_frames.specs.Sealed.{opened}
use Rattle.rx_slots.specs.declared.arrival.Checked.TheVariants.{Own, Sealed}
use Rattle.rx_slots.specs.declared.arrival.Arrival.{Arrival}
use Rattle.rx_slots.specs.declared.arrival.Arrival.TheVariants as arrival_is
use Rattle.rx_slots.specs.Histories.{Receiving, installed, removed, heard, standing_key}
use Rattle.lan_base.specs.Identifiers.{same_sci}
use Rattle.rx_slots.specs.Answers.{checked, checked_fields, checked_under, checked_data}
use Rattle.rx_slots.specs.Numbers.{Taken, is_under, is_late, greatest, next_number, taken, accepted, admitted, answer, lowest}
use Rattle.rx_slots.specs.Slots.{Standing, Slots, number_in, slot_at, key_at, next_of, greatest_of}
use Rattle.rx_slots.specs.Standing.{StandsFor, next_numbers}
use Rattle.rx_slots.specs.inside.Admitting.{arrival_under, arrival_at, Takes, After}
use Rattle.rx_slots.proofs.Numbering.{same_an-equal, same_an-not, same_an-swap}
use Rattle.rx_slots.proofs.Identifiers.{by_test, same_sci-equal, at-same}
use Rattle.rx_slots.proofs.Greatest.{greatest-less}
use Rattle.rx_slots.proofs.Lists.{next-ended, top-ended, next-more, top-more}

-- the slots with another one under an association number
pub record Sets (old new : Slots) (an : AssociationNumber) (slot : Option Standing) : Type 0 where
  pub owner : new.own ≡ old.own
  pub width : new.window ≡ old.window
  pub slots : (n : AssociationNumber) → slot_at new n ≡ cond (same_an n an) slot (slot_at old n)

pub map_cond : {A B : Type 0} (f : A → B) (b : Bool) (x y : A) → f (cond b x y) ≡ cond b (f x) (f y)
map_cond f true x y = refl
map_cond f false x y = refl

cond_at : {A : Type 0} (b c : Bool) (x y : A) → b ≡ c → cond b x y ≡ cond c x y
cond_at b c x y h = ap (λ (t : Bool). cond t x y) h

pub stands_installed : (own : Sci) (window : ℕ) (h : List Receiving) (old new : Slots) (an : AssociationNumber) (secret : Secret) (slot : Standing)
    → StandsFor own window old h → slot ≡ record { key = secret_octets secret; numbers = []; greatest = 1 } → Sets old new an (Some slot)
    → StandsFor own window new (installed an secret ∷ h)
stands_installed own window h old new an secret slot s is_new sets =
    let past : List Taken = accepted own window h in
    record {
      owner = sets.owner ∙ s.owner;
      width = sets.width ∙ s.width;
      keys = λ n.
          ap (option_map (λ (x : Standing). x.key)) (sets.slots n) ∙ map_cond (option_map (λ (x : Standing). x.key)) (same_an n an) (Some slot) (slot_at old n)
          ∙ (λ i. cond (same_an-swap n an i) (Some ((is_new i).key)) (s.keys n i))
          ∙ sym (map_cond (option_map secret_octets) (same_an an n) (Some secret) (standing_key h n));
      numbers = λ n sci.
          ap (λ (o : Option Standing). next_of o sci) (sets.slots n) ∙ map_cond (λ (o : Option Standing). next_of o sci) (same_an n an) (Some slot) (slot_at old n)
          ∙ (λ i. cond (same_an-swap n an i) (number_in ((is_new i).numbers) sci) (s.numbers n sci i))
          ∙ sym (next-ended past an n sci);
      top = λ n.
          ap greatest_of (sets.slots n) ∙ map_cond greatest_of (same_an n an) (Some slot) (slot_at old n)
          ∙ (λ i. cond (same_an-swap n an i) ((is_new i).greatest) (s.top n i))
          ∙ sym (top-ended past an n);
    }

pub stands_removed : (own : Sci) (window : ℕ) (h : List Receiving) (old new : Slots) (an : AssociationNumber)
    → StandsFor own window old h → Sets old new an None → StandsFor own window new (removed an ∷ h)
stands_removed own window h old new an s sets =
    let past : List Taken = accepted own window h in
    record {
      owner = sets.owner ∙ s.owner;
      width = sets.width ∙ s.width;
      keys = λ n.
          ap (option_map (λ (x : Standing). x.key)) (sets.slots n) ∙ map_cond (option_map (λ (x : Standing). x.key)) (same_an n an) None (slot_at old n)
          ∙ (λ i. cond (same_an-swap n an i) None (s.keys n i))
          ∙ sym (map_cond (option_map secret_octets) (same_an an n) None (standing_key h n));
      numbers = λ n sci.
          ap (λ (o : Option Standing). next_of o sci) (sets.slots n) ∙ map_cond (λ (o : Option Standing). next_of o sci) (same_an n an) None (slot_at old n)
          ∙ (λ i. cond (same_an-swap n an i) 1 (s.numbers n sci i))
          ∙ sym (next-ended past an n sci);
      top = λ n.
          ap greatest_of (sets.slots n) ∙ map_cond greatest_of (same_an n an) None (slot_at old n)
          ∙ (λ i. cond (same_an-swap n an i) 1 (s.top n i))
          ∙ sym (top-ended past an n);
    }

-- ---- a frame whose tag is right has a key that stands

data_an : (tag : Tag) (o : Option (List ℕ)) (sci : Sci) (an : AssociationNumber) (pn : ℕ) (body : List ℕ) → checked_data tag o ≡ Sealed sci an pn body → tag.an ≡ an
data_an tag None sci an pn body h = absurd (cc)
data_an tag (Some user) sci an pn body h = cc

key_under : (b : Bool) (o : Option Secret) (tag : Tag) (frame : List ℕ) (sci : Sci) (an : AssociationNumber) (pn : ℕ) (body : List ℕ)
    → cond b Own (checked_under o tag frame) ≡ Sealed sci an pn body → (secret : Secret) × (o ≡ Some secret) × (tag.an ≡ an)
key_under true o tag frame sci an pn body h = absurd (cc)
key_under false None tag frame sci an pn body h = absurd (cc)
key_under false (Some secret) tag frame sci an pn body h =
    (secret, refl, data_an tag (opened (secret_octets secret) tag frame) sci an pn body h)

key_of : (own : Sci) (keys : AssociationNumber → Option Secret) (frame : List ℕ) (r : Result Tag TagRefusal) (sci : Sci) (an : AssociationNumber) (pn : ℕ) (body : List ℕ)
    → checked_fields own keys frame r ≡ Sealed sci an pn body → (secret : Secret) × (keys an ≡ Some secret)
key_of own keys frame (Err e) sci an pn body h = absurd (cc)
key_of own keys frame (Ok tag) sci an pn body h =
    let k = key_under (same_sci tag.sci own) (keys tag.an) tag frame sci an pn body h in
    (k.0, ap keys (sym k.2) ∙ k.1)

slot_there : (o : Option Standing) (secret : Secret) → option_map (λ slot. slot.key) o ≡ Some (secret_octets secret) → o ≡ None → ⊥
slot_there None secret h k = cc
slot_there (Some slot) secret h k = cc

-- under the number of a frame whose tag is right there is a slot
pub has_slot : (own : Sci) (window : ℕ) (h : List Receiving) (s : Slots) (frame : List ℕ) (sci : Sci) (an : AssociationNumber) (pn : ℕ) (body : List ℕ)
    → StandsFor own window s h → Sealed sci an pn body ≡ checked own (standing_key h) frame → slot_at s an ≡ None → ⊥
has_slot own window h s frame sci an pn body st is =
    let k = key_of own (standing_key h) frame (tag_fields frame) sci an pn body (sym is) in
    slot_there (slot_at s an) k.0 (st.keys an ∙ ap (option_map secret_octets) k.1)

arrival_some : (o : Option Standing) (window : ℕ) (sci : Sci) (an : AssociationNumber) (pn : ℕ) (body : List ℕ) → (o ≡ None → ⊥)
    → arrival_under o window sci an pn body ≡ cond (is_late window (next_of o sci) pn) (arrival_is.Late (next_of o sci)) (arrival_is.Accepted pn body)
arrival_some None window sci an pn body h = absurd (h refl)
arrival_some (Some slot) window sci an pn body h = refl

pub arrival_told : (own : Sci) (window : ℕ) (h : List Receiving) (s : Slots) (frame : List ℕ) (sci : Sci) (an : AssociationNumber) (pn : ℕ) (body : List ℕ)
    → StandsFor own window s h → Sealed sci an pn body ≡ checked own (standing_key h) frame
    → arrival_at s sci an pn body ≡ answer own window h frame
arrival_told own window h s frame sci an pn body st is =
    arrival_some (slot_at s an) s.window sci an pn body (has_slot own window h s frame sci an pn body st is)
    ∙ (λ i. cond (is_late (st.width i) (st.numbers an sci i) pn) (arrival_is.Late (st.numbers an sci i)) (arrival_is.Accepted pn body))
    ∙ ap (admitted window (accepted own window h)) is

pub answer_told : {E : Type 0} (own : Sci) (window : ℕ) (h : List Receiving) (s : Slots) (frame : List ℕ) (sci : Sci) (an : AssociationNumber) (pn : ℕ) (body : List ℕ) (r : Result Arrival E)
    → StandsFor own window s h → Sealed sci an pn body ≡ checked own (standing_key h) frame
    → IfOk r (λ arrival. arrival ≡ arrival_at s sci an pn body) → IfOk r (λ arrival. arrival ≡ answer own window h frame)
answer_told own window h s frame sci an pn body (Ok arrival) st is told = told ∙ arrival_told own window h s frame sci an pn body st is
answer_told own window h s frame sci an pn body (Err e) st is told = tt

-- ---- the slots after a frame whose tag is right

both_ways : {b : Bool} → b ≡ true → b ≡ false → ⊥
both_ways h k = cc

-- a number was accepted
stands_more : (own : Sci) (window : ℕ) (h : List Receiving) (old new : Slots) (sci : Sci) (an : AssociationNumber) (pn : ℕ) (frame : List ℕ)
    → StandsFor own window old h → Takes old new sci an pn
    → accepted own window (heard frame ∷ h) ≡ record { an = an; sci = sci; pn = pn } ∷ accepted own window h
    → StandsFor own window new (heard frame ∷ h)
stands_more own window h old new sci an pn frame s t more =
    let past : List Taken = accepted own window h in
    let one : Taken = record { an = an; sci = sci; pn = pn } in
    record {
      owner = t.owner ∙ s.owner;
      width = t.width ∙ s.width;
      keys = λ n. by_test (same_an an n)
          (λ h. subst (λ (m : AssociationNumber). key_at new m ≡ key_at old m) (same_an-equal an n h) t.same_key ∙ s.keys n)
          (λ h. ap (option_map (λ (x : Standing). x.key)) (t.others n (λ e. same_an-not an n h (sym e))) ∙ s.keys n);
      numbers = λ n q.
          number n q ∙ sym (next-more past one n q) ∙ sym (ap (λ (ts : List Taken). next_number ts n q) more);
      top = λ n.
          greatest_one n ∙ sym (top-more past one n) ∙ sym (ap (λ (ts : List Taken). greatest (next_numbers ts n)) more);
    }
  where
    number : (n : AssociationNumber) (q : Sci) → next_of (slot_at new n) q
        ≡ cond ((same_an an n) && same_sci sci q) (max (pn + 1) (next_number (accepted own window h) n q)) (next_number (accepted own window h) n q)
    number n q = by_test (same_an an n)
        (λ e. let same : an ≡ n = same_an-equal an n e in
        subst (λ (m : AssociationNumber). next_of (slot_at new m) q ≡ cond ((same_an an n) && same_sci sci q) (max (pn + 1) (next_number (accepted own window h) m q)) (next_number (accepted own window h) m q)) same
        (t.numbers q
        ∙ (λ i. cond (at-same sci q i) (max (pn + 1) (s.numbers an sci i)) (s.numbers an q i))
        ∙ by_test (same_sci sci q)
        (λ k. cond_at (same_sci sci q) true (max (pn + 1) (next_number (accepted own window h) an sci)) (next_number (accepted own window h) an q) k
        ∙ ap (λ (x : Sci). max (pn + 1) (next_number (accepted own window h) an x)) (same_sci-equal sci q k)
        ∙ sym (λ i. cond (e i && k i) (max (pn + 1) (next_number (accepted own window h) an q)) (next_number (accepted own window h) an q)))
        (λ k. cond_at (same_sci sci q) false (max (pn + 1) (next_number (accepted own window h) an sci)) (next_number (accepted own window h) an q) k
        ∙ sym (λ i. cond (e i && k i) (max (pn + 1) (next_number (accepted own window h) an q)) (next_number (accepted own window h) an q)))))
        (λ e. ap (λ (o : Option Standing). next_of o q) (t.others n (λ k. same_an-not an n e (sym k))) ∙ s.numbers n q
        ∙ sym (λ i. cond (e i && same_sci sci q) (max (pn + 1) (next_number (accepted own window h) n q)) (next_number (accepted own window h) n q)))

    greatest_one : (n : AssociationNumber) → greatest_of (slot_at new n)
        ≡ cond (same_an an n) (max (pn + 1) (greatest (next_numbers (accepted own window h) n))) (greatest (next_numbers (accepted own window h) n))
    greatest_one n = by_test (same_an an n)
        (λ e. let same : an ≡ n = same_an-equal an n e in
        subst (λ (m : AssociationNumber). greatest_of (slot_at new m) ≡ cond (same_an an n) (max (pn + 1) (greatest (next_numbers (accepted own window h) m))) (greatest (next_numbers (accepted own window h) m))) same
        (t.top ∙ ap (λ (g : ℕ). max g (pn + 1)) (s.top an) ∙ swap
        ∙ sym (cond_at (same_an an n) true (max (pn + 1) (greatest (next_numbers (accepted own window h) an))) (greatest (next_numbers (accepted own window h) an)) e)))
        (λ e. ap greatest_of (t.others n (λ k. same_an-not an n e (sym k))) ∙ s.top n
        ∙ sym (cond_at (same_an an n) false (max (pn + 1) (greatest (next_numbers (accepted own window h) n))) (greatest (next_numbers (accepted own window h) n)) e))
      where
        swap : max (greatest (next_numbers (accepted own window h) an)) (pn + 1) ≡ max (pn + 1) (greatest (next_numbers (accepted own window h) an))
        swap = omega arith

-- nothing was accepted
pub stands_same : (own : Sci) (window : ℕ) (h : List Receiving) (old new : Slots) (frame : List ℕ)
    → StandsFor own window old h → new ≡ old → accepted own window (heard frame ∷ h) ≡ accepted own window h
    → StandsFor own window new (heard frame ∷ h)
stands_same own window h old new frame s same none =
    subst (λ (x : Slots). StandsFor own window x (heard frame ∷ h)) (sym same) (record {
      owner = s.owner;
      width = s.width;
      keys = s.keys;
      numbers = λ n q. s.numbers n q ∙ sym (ap (λ (ts : List Taken). next_number ts n q) none);
      top = λ n. s.top n ∙ sym (ap (λ (ts : List Taken). greatest (next_numbers ts n)) none);
    })

after_late : (arrival : Arrival) (old new : Slots) (sci : Sci) (an : AssociationNumber) (next : ℕ) → arrival ≡ arrival_is.Late next → After arrival old new sci an → new ≡ old
after_late arrival old new sci an next e a = subst (λ (x : Arrival). After x old new sci an) e a

after_accepted : (arrival : Arrival) (old new : Slots) (sci : Sci) (an : AssociationNumber) (pn : ℕ) (body : List ℕ) → arrival ≡ arrival_is.Accepted pn body → After arrival old new sci an → Takes old new sci an pn
after_accepted arrival old new sci an pn body e a = subst (λ (x : Arrival). After x old new sci an) e a

stands_arrived : (own : Sci) (window : ℕ) (h : List Receiving) (old new : Slots) (frame : List ℕ) (sci : Sci) (an : AssociationNumber) (pn : ℕ) (body : List ℕ) (arrival : Arrival)
    → StandsFor own window old h → Sealed sci an pn body ≡ checked own (standing_key h) frame
    → arrival ≡ arrival_at old sci an pn body → After arrival old new sci an
    → StandsFor own window new (heard frame ∷ h)
stands_arrived own window h old new frame sci an pn body arrival s is told after =
    let past : List Taken = accepted own window h in
    let next : ℕ = next_number past an sci in
    let one : Taken = record { an = an; sci = sci; pn = pn } in
    let answered : arrival ≡ cond (is_late window next pn) (arrival_is.Late next) (arrival_is.Accepted pn body) =
    told ∙ arrival_told own window h old frame sci an pn body s is ∙ sym (ap (admitted window past) is) in
    let numbers : accepted own window (heard frame ∷ h) ≡ cond (is_late window next pn) past (one ∷ past) = sym (ap (taken window past) is) in
    by_test (is_late window next pn)
    (λ late. stands_same own window h old new frame s
    (after_late arrival old new sci an next (answered ∙ cond_at (is_late window next pn) true (arrival_is.Late next) (arrival_is.Accepted pn body) late) after)
    (numbers ∙ cond_at (is_late window next pn) true past (one ∷ past) late))
    (λ late. stands_more own window h old new sci an pn frame s
    (after_accepted arrival old new sci an pn body (answered ∙ cond_at (is_late window next pn) false (arrival_is.Late next) (arrival_is.Accepted pn body) late) after)
    (numbers ∙ cond_at (is_late window next pn) false past (one ∷ past) late))

pub stands_admitted : {E : Type 0} (own : Sci) (window : ℕ) (h : List Receiving) (old new : Slots) (frame : List ℕ) (sci : Sci) (an : AssociationNumber) (pn : ℕ) (body : List ℕ) (r : Result Arrival E)
    → StandsFor own window old h → Sealed sci an pn body ≡ checked own (standing_key h) frame
    → IfOk r (λ arrival. arrival ≡ arrival_at old sci an pn body) → IfOk r (λ arrival. After arrival old new sci an)
    → OnOk r (StandsFor own window new (heard frame ∷ h))
stands_admitted own window h old new frame sci an pn body (Ok arrival) s is told after =
    stands_arrived own window h old new frame sci an pn body arrival s is told after
stands_admitted own window h old new frame sci an pn body (Err e) s is told after = tt

-- ---- the lowest acceptable number

pub lowest_told : (window g : ℕ) (past : List Taken) (an : AssociationNumber) → g ≡ greatest (next_numbers past an)
    → max 1 (min (g - window) (2 ^ 32 - 1)) ≡ lowest window past an
lowest_told window g past an e =
    let swap : max 1 (min (g - window) (2 ^ 32 - 1)) ≡ min (max 1 (g - window)) (2 ^ 32 - 1) = omega arith in
    swap ∙ ap (λ (n : ℕ). min n (2 ^ 32 - 1)) (ap (λ (n : ℕ). max 1 (n - window)) e ∙ greatest-less window (filter (is_under an) past))
