-- The words of all stations, of which one takes a step.
use Rattle.std.proofs.Common.{◌≡◌, ◌≢◌, ◌⊎◌, inl, inr, ⊎_elim, ℕ, zero, suc, ◌+◌, ◌<◌, ◌≤◌, Bool, true, false, cond, List, [], ◌∷◌, ◌++◌, length, set, take, get_or, length-set, Option, Some, None, Result, Ok, Err, refl, ap, sym, ◌∙◌, subst, arith, add-one}
use Rattle.std.proofs.lemmas.Bool.{eq-eqb, ne_eqb}
use Rattle.std.proofs.lemmas.Option.{slice_get_within}
use Rattle.std.proofs.Math.Seq.{take-suc}
use Rattle.std.specs.Prelude.{◌==◌, slice_get, is_some, option_map, option_and_then, Contains}
use Rattle.atomic_table.specs.Seated.{TableId}
use Rattle.lan_base.specs.declared.association_number.AssociationNumber.{AssociationNumber}
use Rattle.association_slots.specs.Views.{ControlAt, SeatAt, AllIn, current, newest, present_at, free_number, told_sum}
use Rattle.association_slots.specs.Learned.{Learned}
use Rattle.association_slots.specs.Steps.{new_seat, seated, told}
use Rattle.station_words.specs.Seats.{WasSeated, HasNoSeat, HasJoined, AreAllIn, HasGot}
use Rattle.station_words.proofs.Keeping.{and-false}
use Rattle.station_words.proofs.KeepingUp.{newest-word}
use Rattle.std.specs.Prelude.{IfSome, IfNone, max}
use Rattle.association_slots.specs.declared.card.Card.{Card}
use Rattle.association_slots.specs.declared.view.Current.{Current}
use Rattle.packet_claims.specs.declared.answers.Claim.{Claim}
use Rattle.packet_claims.specs.declared.answers.NoClaim.{NoClaim}
use Rattle.packet_claims.specs.declared.answers.NoClaim.TheVariants.{NoKey, Exhausted}
use Rattle.sak_exchange.proofs.Public.{by_option}
use Rattle.lan_core.specs.declared.event.Event.TheVariants as events
use Rattle.lan_core.specs.declared.fact.Fact.{Fact}
use Rattle.lan_core.specs.declared.fact.Fact.TheVariants as facts
use Rattle.lan_core.specs.declared.settings.Settings.{Settings}
use Rattle.lan_core.specs.Run.{Run, place, stations}
use Rattle.lan_core.specs.Lives.{transmitting_at}
use Rattle.lan_core.specs.Unstopped.{next_under}
use Rattle.lan_core.specs.Expected.{last_number}
use Rattle.group_safety.specs.Transmitting.{Carried, now, moved, moves, follow, CarriesAt}
use Rattle.group_safety.specs.Accounts.{Account, next_now, looked, showing, gaining, with_claim, claiming, account_at, ahead, onward}
use Rattle.group_safety.proofs.Public.{contains-in, in-contains, in-left, in-right, follow-append}
use Rattle.association_slots.specs.declared.view.ControlView.{ControlView}
use Rattle.station_words.specs.Telling.{KeepUp, Tells, IsClaimed, HasGained, of_seats, word_of}
use Rattle.station_words.specs.Ties.{HaveKeptUp, HaveLooked, KeepAhead, KeepCards, tables_of, IsTiedBy, AreTiedBy, IsTied, AreTied, IsAheadBy, AreAheadBy, AreAhead, AreHeld, FollowsBy, Follows, Followed, CardsFollow}
use Rattle.station_words.specs.inside.Cards.{GivesCard, HasCard, card_of_key, card_held}
use Rattle.station_words.proofs.Carding.{cards-none, cards-other, cards-own, cards-then}
use Rattle.sak_exchange.specs.declared.held_key.HeldKey.{HeldKey}
use Rattle.lan_core.specs.Keys.{held_at}

-- what stands where one was set
pub get-set : (cs : List ControlAt) (p : ℕ) (x : ControlAt) (s : ℕ) (d : ControlAt) → slice_get (set cs p x) s ≡ Some d → ((s ≡ p) × (x ≡ d)) ⊎ ((s ≢ p) × (slice_get cs s ≡ Some d))
get-set [] p x s d e = absurd (cc e)
get-set (c ∷ cs) zero x zero d e = inl (refl, cc e)
get-set (c ∷ cs) zero x (suc s) d e = inr ((λ z. absurd (omega (arith, z))), e)
get-set (c ∷ cs) (suc p) x zero d e = inr ((λ z. absurd (omega (arith, z))), e)
get-set (c ∷ cs) (suc p) x (suc s) d e =
    ⊎_elim (λ (both : (s ≡ p) × (x ≡ d)). inl (ap suc both.0, both.1)) (λ (other : (s ≢ p) × (slice_get cs s ≡ Some d)). inr ((λ z. other.0 (omega (arith, z))), other.1)) (get-set cs p x s d e)

-- what holds at each place, where one was set
set-each : (P : ℕ → ControlAt → Type 0) (cs : List ControlAt) (s : ℕ) (d : ControlAt) → ((t : ℕ) (v : ControlAt) → t ≢ s → slice_get cs t ≡ Some v → P t v) → P s d → (t : ℕ) (v : ControlAt) → slice_get (set cs s d) t ≡ Some v → P t v
set-each P cs s d others own t v there = ⊎_elim
    (λ (both : (t ≡ s) × (d ≡ v)). subst (λ (u : ℕ). P u v) (sym both.0) (subst (P s) both.1 own))
    (λ (other : (t ≢ s) × (slice_get cs t ≡ Some v)). others t v other.0 other.1)
    (get-set cs s d t v there)

pub tables-set : (cs : List ControlAt) (p : ℕ) (c d : ControlAt) → slice_get cs p ≡ Some c → d.table ≡ c.table → tables_of (set cs p d) ≡ tables_of cs
tables-set [] p c d at same = refl
tables-set (x ∷ cs) zero c d at same = let here : x ≡ c = cc at in ap (λ (t : TableId). t ∷ tables_of cs) (same ∙ ap (λ (v : ControlAt). v.table) (sym here))
tables-set (x ∷ cs) (suc p) c d at same = ap (λ (ts : List TableId). x.table ∷ ts) (tables-set cs p c d at same)

none-more : {A : Type 0} (xs : List A) → length xs ≡ length (xs ++ [])
none-more [] = refl
none-more (x ∷ xs) = ap suc (none-more xs)

-- a look at the words of one station
pub looked-set : (cs : List ControlAt) (p : ℕ) (c d : ControlAt) → slice_get cs p ≡ Some c → d.view.points ≡ c.view.points → of_seats d.view ≡ of_seats c.view → d.view.card_words ≡ c.view.card_words
    → ((settings : Settings) (r : Run) → HaveKeptUp settings r cs → (s : ℕ) × (n : ℕ) × KeepAhead settings r (events.Tick s n) (set cs p d)) → HaveLooked cs (set cs p d)
looked-set cs p c d at points seats cards shown = record {
  many = length-set cs p d;
  each = λ t v there. ⊎_elim
      (λ (both : (t ≡ p) × (d ≡ v)). (
        c,
        subst (λ (n : ℕ). slice_get cs n ≡ Some c) (sym both.0) at,
        ap (λ (w : ControlAt). w.view.points) (sym both.1) ∙ points,
        ap (λ (w : ControlAt). of_seats w.view) (sym both.1) ∙ seats,
        ap (λ (w : ControlAt). w.view.card_words) (sym both.1) ∙ cards,
      ))
      (λ (other : (t ≢ p) × (slice_get cs t ≡ Some v)). (v, other.1, refl, refl, refl))
      (get-set cs p d t v there);
  shown = shown;
}

-- where no station is, no number is shown
none-shown : (settings : Settings) (r : Run) (cs : List ControlAt) → HaveKeptUp settings r cs → KeepAhead settings r (events.Tick (length cs) 0) cs
none-shown settings r cs up = record {
  many = up.many ∙ none-more (stations r);
  each = λ s c at. let a = up.each s c at in
      let apart : length cs ≢ s = λ same. (let less = slice_get_within cs s c at in omega (arith, less, same)) in
      (a.0, a.1, subst (λ (b : Bool). KeepUp (cond b (showing 0 (account_at settings s r a.0)) (account_at settings s r a.0)) c.view) (sym (ne_eqb (length cs) s apart)) a.2);
}

-- the cards stay where the words of one station keep theirs
pub cards-set : (cs : List ControlAt) (p : ℕ) (c d : ControlAt) → slice_get cs p ≡ Some c
    → d.view.card_words ≡ c.view.card_words → KeepCards cs (set cs p d)
cards-set cs p c d at cards = set-each
    (λ t v. (u : ControlAt) × (slice_get cs t ≡ Some u) × (v.view.card_words ≡ u.view.card_words)) cs p d
    (λ t v ne there. (v, there, refl)) (c, at, cards)

pub cards-kept : (cs : List ControlAt) → KeepCards cs cs
cards-kept cs t v there = (v, there, refl)

pub looked-none : (cs : List ControlAt) → HaveLooked cs cs
looked-none cs = record {
  many = refl;
  each = λ s d at. (d, at, refl, refl, refl);
  shown = λ settings r up. (length cs, 0, none-shown settings r cs up);
}

abbrev pub number_of : Result Claim NoClaim → ℕ
number_of (Ok x) = x.pn
number_of (Err e) = 0

-- ---- a step of one station

module _ (settings : Settings) (r : Run) (cs : List ControlAt) (s : ℕ) (c d : ControlAt) (tied : AreTied settings r cs) (at : slice_get cs s ≡ Some c)
    (told : (k : Carried) → CarriesAt settings s r k → next_now (account_at settings s r k) ≡ next_under settings s r (transmitting_at settings s r)) where
  abbrev tie : IsTied settings s r c
  tie = tied.each s c at

  abbrev l : Account
  l = account_at settings s r tie.0

  pub next-all : (n : ℕ) → ((m : Account) → Tells m c.view → n ≡ next_now m) → ((m : Account) → Tells m c.view → Tells (looked m) d.view)
      → (n ≡ next_under settings s r (transmitting_at settings s r)) × AreAhead settings r (events.Tick s n) (set cs s d)
  next-all n is tells = (
    is l tie.2 ∙ told tie.0 tie.1,
    record { many = length-set cs s d ∙ (tied.many ∙ none-more (stations r)); each = each },
  )
    where
      each : (t : ℕ) (v : ControlAt) → slice_get (set cs s d) t ≡ Some v → IsAheadBy Tells ahead settings t r (events.Tick s n) v
      each t v there = ⊎_elim
          (λ (both : (t ≡ s) × (d ≡ v)). subst (λ (u : ℕ). IsAheadBy Tells ahead settings u r (events.Tick s n) v) (sym both.0) (subst (λ (w : ControlAt). IsAheadBy Tells ahead settings s r (events.Tick s n) w) both.1
          (tie.0, tie.1, subst (λ (b : Bool). Tells (cond b (looked l) l) d.view) (sym (eq-eqb s s refl)) (tells l tie.2))))
          (λ (other : (t ≢ s) × (slice_get cs t ≡ Some v)). let a = tied.each t v other.1 in
          (a.0, a.1, subst (λ (b : Bool). Tells (cond b (looked (account_at settings t r a.0)) (account_at settings t r a.0)) v.view) (sym (ne_eqb s t (λ e. other.0 (sym e)))) a.2))
          (get-set cs s d t v there)

  claiming-ok : (an : AssociationNumber) (epoch pn : ℕ) → word_of (now l.carried) ≡ present_at an epoch → pn ≡ next_now l → with_claim epoch pn l ≡ claiming l
  claiming-ok an epoch pn is same = ap (λ (n : ℕ). with_claim epoch n l) same ∙ sym (ap (λ (q : Current). cond q.present (with_claim q.epoch (next_now l) l) l) is)

  claiming-none : (now l.carried).present ≡ false → l ≡ claiming l
  claiming-none is = sym (ap (λ (b : Bool). cond b (with_claim (now l.carried).epoch (next_now l) l) l) is)

  claimed-by : (answer : Result Claim NoClaim) → IsClaimed l c.view answer (λ m. Tells m d.view) → (number_of answer ≡ next_now l) × Tells (claiming l) d.view
  claimed-by (Ok x) is = (is.1, subst (λ (m : Account). Tells m d.view) (claiming-ok x.an x.epoch x.pn is.0 is.1) is.3)
  claimed-by (Err (NoKey after)) is = (sym (ap (λ (b : Bool). cond b (l.nexts (now l.carried).epoch) 0) is.0), subst (λ (m : Account). Tells m d.view) (claiming-none is.0) is.2)
  claimed-by (Err (Exhausted epoch)) is = absurd is

  pub claim-all : (user pn : ℕ) (answer : Result Claim NoClaim) → pn ≡ number_of answer → next_under settings s r (transmitting_at settings s r) ≤ last_number
      → ((m : Account) → Tells m c.view → next_now m ≤ last_number → IsClaimed m c.view answer (λ m. Tells m d.view))
      → (pn ≡ next_under settings s r (transmitting_at settings s r)) × AreAhead settings r (events.Claim s user pn) (set cs s d)
  claim-all user pn answer is low tells =
      let this = told tie.0 tie.1 in
      let by = claimed-by answer (tells l tie.2 (omega (arith, this, low))) in (
        is ∙ (by.0 ∙ this),
        record { many = length-set cs s d ∙ (tied.many ∙ none-more (stations r)); each = each by.1 },
      )
    where
      each : Tells (claiming l) d.view → (t : ℕ) (v : ControlAt) → slice_get (set cs s d) t ≡ Some v → IsAheadBy Tells ahead settings t r (events.Claim s user pn) v
      each now_tells t v there = ⊎_elim
          (λ (both : (t ≡ s) × (d ≡ v)). subst (λ (u : ℕ). IsAheadBy Tells ahead settings u r (events.Claim s user pn) v) (sym both.0) (subst (λ (w : ControlAt). IsAheadBy Tells ahead settings s r (events.Claim s user pn) w) both.1
          (tie.0, tie.1, subst (λ (b : Bool). Tells (cond b (claiming l) l) d.view) (sym (eq-eqb s s refl)) now_tells)))
          (λ (other : (t ≢ s) × (slice_get cs t ≡ Some v)). let a = tied.each t v other.1 in
          (a.0, a.1, subst (λ (b : Bool). Tells (cond b (claiming (account_at settings t r a.0)) (account_at settings t r a.0)) v.view) (sym (ne_eqb s t (λ e. other.0 (sym e)))) a.2))
          (get-set cs s d t v there)

-- ---- words that say this of their account, where one station takes a step

gaining-none : (a : Account) → gaining 0 a ≡ a
gaining-none a = ap (λ (b : Bool). cond b (record a { nexts = λ e. cond (e == (now a.carried).epoch) (max 1 (a.nexts e)) (a.nexts e); claims = ((now a.carried).epoch, 0) ∷ a.claims }) a) (and-false (now a.carried).present)

module _ (Says : Account → ControlView → Type 0) (settings : Settings) (r : Run) (cs : List ControlAt) (s : ℕ) (c d : ControlAt) (tied : AreTiedBy Says settings r cs) (at : slice_get cs s ≡ Some c) where
  -- those of one station say after as before
  pub said-same : ((m : Account) → Says m c.view → Says m d.view) → AreTiedBy Says settings r (set cs s d)
  said-same keeps = record {
    many = length-set cs s d ∙ tied.many;
    each = set-each (λ t v. IsTiedBy Says settings t r v) cs s d (λ t v ne there. tied.each t v there) (let a = tied.each s c at in (a.0, a.1, keeps _ a.2));
  }

  -- a number was shown
  pub said-shown : (n : ℕ) → ((m : Account) → Says m c.view → Says (showing n m) d.view) → AreAheadBy Says onward settings r (events.Tick s n) (set cs s d)
  said-shown n keeps = record {
    many = length-set cs s d ∙ (tied.many ∙ none-more (stations r));
    each = set-each (λ t v. IsAheadBy Says onward settings t r (events.Tick s n) v) cs s d
        (λ t v ne there. let a = tied.each t v there in (a.0, a.1, subst (λ (b : Bool). Says (cond b (showing n (account_at settings t r a.0)) (account_at settings t r a.0)) v.view) (sym (ne_eqb s t (λ e. ne (sym e)))) a.2))
        (let a = tied.each s c at in (a.0, a.1, subst (λ (b : Bool). Says (cond b (showing n (account_at settings s r a.0)) (account_at settings s r a.0)) d.view) (sym (eq-eqb s s refl)) (keeps _ a.2)));
  }

  -- a number was claimed
  said-claimed : (user n : ℕ) → Says (gaining n (account_at settings s r (tied.each s c at).0)) d.view → AreAheadBy Says onward settings r (events.Claim s user n) (set cs s d)
  said-claimed user n says = record {
    many = length-set cs s d ∙ (tied.many ∙ none-more (stations r));
    each = set-each (λ t v. IsAheadBy Says onward settings t r (events.Claim s user n) v) cs s d
        (λ t v ne there. let a = tied.each t v there in (a.0, a.1, subst (λ (b : Bool). Says (cond b (gaining n (account_at settings t r a.0)) (account_at settings t r a.0)) v.view) (sym (ne_eqb s t (λ e. ne (sym e)))) a.2))
        (let a = tied.each s c at in (a.0, a.1, subst (λ (b : Bool). Says (cond b (gaining n (account_at settings s r a.0)) (account_at settings s r a.0)) d.view) (sym (eq-eqb s s refl)) says));
  }

  module _ (told : (k : Carried) → CarriesAt settings s r k → next_now (account_at settings s r k) ≡ next_under settings s r (transmitting_at settings s r)) where
    -- what is shown is not below the next number
    pub said-ahead : (n : ℕ) → ((m : Account) → Says m c.view → (next_now m ≤ n) × (next_now m ≡ 0 → n ≡ 0))
        → (next_under settings s r (transmitting_at settings s r) ≤ n) × (next_under settings s r (transmitting_at settings s r) ≡ 0 → n ≡ 0)
    said-ahead n below = let a = tied.each s c at in let z = told a.0 a.1 in let y = below _ a.2 in let low = y.0 in (omega (arith, z, low), λ none. y.1 (z ∙ none))

    -- nor far above it
    pub said-near : (n : ℕ) → ((m : Account) → Says m c.view → n ≤ next_now m + 16) → n ≤ next_under settings s r (transmitting_at settings s r) + 16
    said-near n near = let a = tied.each s c at in let z = told a.0 a.1 in let y = near _ a.2 in omega (arith, z, y)

    abbrev m : Account
    m = account_at settings s r (tied.each s c at).0

    same-next : next_now m ≡ next_under settings s r (transmitting_at settings s r)
    same-next = told (tied.each s c at).0 (tied.each s c at).1

    -- a key that transmits has a next number
    some-next : KeepUp m c.view → (an : AssociationNumber) (epoch : ℕ) → word_of (now m.carried) ≡ present_at an epoch → 1 ≤ next_now m
    some-next u an epoch is =
        let here : current c.view ≡ word_of (now m.carried) = ap newest u.points ∙ newest-word m.carried.points in
        let one = (u.least (ap (λ (q : Current). q.present) (here ∙ is))).0 in
        let same : m.nexts (current c.view).epoch ≡ m.nexts (now m.carried).epoch = ap (λ (q : Current). m.nexts q.epoch) here in
        let next : next_now m ≡ m.nexts (now m.carried).epoch = ap (λ (q : Current). cond q.present (m.nexts (now m.carried).epoch) 0) is in
        omega (arith, one, same, next)

    got-by : KeepUp m c.view → (answer : Result Claim NoClaim) → HasGained m c.view answer (λ b. Says b d.view) → HasGot settings s r cs (number_of answer) × Says (gaining (number_of answer) m) d.view
    got-by u (Ok x) is = let y = same-next in let z = is.1 in let one = some-next u x.an x.epoch is.0 in (inl (omega arith, omega arith, is.3), is.5)
    got-by u (Err (NoKey after)) is = (
      inr (refl, inl (sym same-next ∙ ap (λ (b : Bool). cond b (m.nexts (now m.carried).epoch) 0) is.0)),
      subst (λ (b : Account). Says b d.view) (sym (gaining-none m)) is.2,
    )
    got-by u (Err (Exhausted epoch)) is = (
      inr (refl, inr (c, at, subst (λ (e : ℕ). last_number < told_sum c.view (current c.view).an e) (sym (ap (λ (q : Current). q.epoch) is.0)) is.1)),
      subst (λ (b : Account). Says b d.view) (sym (gaining-none m)) is.2,
    )

    pub said-gained : ((a : Account) → Says a c.view → KeepUp a c.view) → (user pn : ℕ) (answer : Result Claim NoClaim) → pn ≡ number_of answer → HasGained m c.view answer (λ b. Says b d.view)
        → HasGot settings s r cs pn × AreAheadBy Says onward settings r (events.Claim s user pn) (set cs s d)
    said-gained keeps user pn answer is gained = let by = got-by (keeps m (tied.each s c at).2) answer gained in
        subst (λ (n : ℕ). HasGot settings s r cs n × AreAheadBy Says onward settings r (events.Claim s user n) (set cs s d)) (sym is)
        (by.0, said-claimed user (number_of answer) by.1)

pub all-in-set : (cs : List ControlAt) (s : ℕ) (c d : ControlAt) → slice_get cs s ≡ Some c → (AllIn c.view → AllIn d.view) → AreAllIn cs → AreAllIn (set cs s d)
all-in-set cs s c d at one all = set-each (λ t v. AllIn v.view) cs s d (λ t v ne there. all t v there) (one (all s c at))

-- ---- seats

some-map : {A : Type 0} (o : Option A) (P Q : A → Type 0) → ((x : A) → P x → Q x) → IfSome o P → IfSome o Q
some-map None P Q f is = is
some-map (Some x) P Q f is = f x is

none-map : {A : Type 0} (o : Option A) (P Q : Type 0) → (P → Q) → IfNone o P → IfNone o Q
none-map None P Q f is = f is
none-map (Some x) P Q f is = is

set-back : (cs : List ControlAt) (s : ℕ) (c : ControlAt) → slice_get cs s ≡ Some c → set cs s c ≡ cs
set-back [] s c at = refl
set-back (x ∷ cs) zero c at = let here : x ≡ c = cc at in ap (λ (v : ControlAt). v ∷ cs) (sym here)
set-back (x ∷ cs) (suc s) c at = ap (λ (vs : List ControlAt). x ∷ vs) (set-back cs s c at)

pub was-seated : (cs : List ControlAt) (s : ℕ) (c d : ControlAt) (r : Option SeatAt) → slice_get cs s ≡ Some c
    → IfSome r (λ seat. (seat ≡ record { table = c.table; view = new_seat c.view }) × (d ≡ record c { view = seated c.view }))
    → IfSome r (WasSeated s cs (set cs s d))
was-seated cs s c d r at is = some-map r _ (WasSeated s cs (set cs s d)) (λ seat both. record { control = c; there = at; seat_is = both.0; new_is = ap (set cs s) both.1 }) is

pub was-full : (cs : List ControlAt) (s : ℕ) (c d : ControlAt) (r : Option SeatAt) → slice_get cs s ≡ Some c
    → IfNone r ((8 < free_number c.view) × (d ≡ c)) → IfNone r (set cs s d ≡ cs)
was-full cs s c d r at is = none-map r _ (set cs s d ≡ cs) (λ both. ap (set cs s) both.1 ∙ set-back cs s c at) is

pub no-seat : (cs : List ControlAt) (s : ℕ) (c d : ControlAt) (r : Option SeatAt) → slice_get cs s ≡ Some c
    → IfNone r ((8 < free_number c.view) × (d ≡ c)) → IfNone r (HasNoSeat s cs)
no-seat cs s c d r at is =
    none-map r _ (HasNoSeat s cs) (λ both. subst (λ o. IfSome o (λ (x : ControlAt). 8 < free_number x.view)) (sym at) both.0) is

pub has-joined : (cs : List ControlAt) (s : ℕ) (c d : ControlAt) (seat : SeatAt) → slice_get cs s ≡ Some c → d ≡ record c { view = told c.view seat.view } → Learned d.view → HasJoined s seat cs (set cs s d)
has-joined cs s c d seat at is learned = record {
  control = c;
  there = at;
  new_is = ap (set cs s) is;
  learned = subst (λ (v : ControlAt). Learned v.view) is learned;
}

-- ---- facts

moves-own : (f : Fact) (s : ℕ) (k : Carried) → s ≡ place f → moves s f k ≡ moved f k
moves-own (facts.Dropped t id an) s k e = let y : (t == s) ≡ true = eq-eqb t s (sym e) in rw y refl
moves-own (facts.Began t id an epoch cause) s k e = let y : (t == s) ≡ true = eq-eqb t s (sym e) in rw y refl
moves-own (facts.Installed t id an epoch sak) s k e = let y : (t == s) ≡ true = eq-eqb t s (sym e) in rw y refl
moves-own _ s k e = refl

moves-other : (f : Fact) (s : ℕ) (k : Carried) → s ≢ place f → moves s f k ≡ Some k
moves-other (facts.Dropped t id an) s k e = let y : (t == s) ≡ false = ne_eqb t s (λ z. e (sym z)) in rw y refl
moves-other (facts.Began t id an epoch cause) s k e = let y : (t == s) ≡ false = ne_eqb t s (λ z. e (sym z)) in rw y refl
moves-other (facts.Installed t id an epoch sak) s k e = let y : (t == s) ≡ false = ne_eqb t s (λ z. e (sym z)) in rw y refl
moves-other _ s k e = refl

then-some : (o : Option Carried) → option_and_then (λ (k : Carried). Some k) o ≡ o
then-some None = refl
then-some (Some k) = refl

-- the words of another station stay
stays-by : (Says : Account → ControlView → Type 0) (f : Fact) (s : ℕ) (d : ControlAt) → s ≢ place f → FollowsBy Says s (f ∷ []) d d
stays-by Says f s d ne l k says is =
    let e : Some l.carried ≡ Some k = sym (then-some (moves s f l.carried) ∙ moves-other f s l.carried ne) ∙ is in
    let same : l.carried ≡ k = cc e in subst (λ (j : Carried). Says (record l { carried = j }) d.view) same says

stays : (f : Fact) (s : ℕ) (d : ControlAt) → s ≢ place f → Follows s (f ∷ []) d d
stays f s d ne = record { tells = stays-by Tells f s d ne; keeps_up = stays-by KeepUp f s d ne; seats = refl }

some-mapped : (o : Option HeldKey) → is_some o ≡ true → is_some (option_map card_of_key o) ≡ true
some-mapped None some = some
some-mapped (Some h) some = refl

-- the card of a held key is there
pub has-card : (settings : Settings) (r : Run) (f : Fact) (card : Option Card) → card ≡ card_held settings r f → AreHeld settings r (f ∷ []) → HasCard f card
has-card settings r (facts.Installed s id an epoch sak) card is held = ap is_some is ∙ some-mapped (held_at settings s r an) (held s id an epoch sak (0, omega arith, refl))
has-card settings r _ card is held = tt

-- the words of one station by its own fact
abbrev Moved : (Account → ControlView → Type 0) → Fact → Option Card → ControlAt → ControlAt → Type 0
Moved Says f card c d = (l : Account) (k : Carried) → Says l c.view → moved f l.carried ≡ Some k → HasCard f card → Says (record l { carried = k }) d.view

own-by : (Says : Account → ControlView → Type 0) (f : Fact) (t : ℕ) (c d : ControlAt) (card : Option Card) → t ≡ place f → HasCard f card → Moved Says f card c d → FollowsBy Says t (f ∷ []) c d
own-by Says f t c d card here has by_own l k says is = by_own l k says (sym (then-some (moves t f l.carried) ∙ moves-own f t l.carried here) ∙ is) has

pub followed-one : (settings : Settings) (r : Run) (cs : List ControlAt) (f : Fact) (s : ℕ) (c d : ControlAt) (card : Option Card) → s ≡ place f → slice_get cs s ≡ Some c
    → (AreHeld settings r (f ∷ []) → HasCard f card)
    → Moved Tells f card c d → Moved KeepUp f card c d → of_seats d.view ≡ of_seats c.view
    → card ≡ card_held settings r f
    → ((a : Account) (k : Carried) → KeepUp a c.view → moved f a.carried ≡ Some k → HasCard f card
    → GivesCard f card a.carried.installs c.view d.view)
    → Followed settings r (f ∷ []) cs (set cs s d)
followed-one settings r cs f s c d card here at carded tells keeps seats is gives = λ held. record {
  many = length-set cs s d;
  each = set-each (λ t v. (w : ControlAt) × (slice_get cs t ≡ Some w) × Follows t (f ∷ []) w v) cs s d
      (λ t v ne there. (v, there, stays f t v (λ e. ne (e ∙ sym here))))
      (c, at, record { tells = own-by Tells f s c d card here (carded held) tells; keeps_up = own-by KeepUp f s c d card here (carded held) keeps; seats = seats });
  cards = λ t u v was there. set-each (λ t v. (u : ControlAt) → slice_get cs t ≡ Some u → CardsFollow settings r t (f ∷ []) u v) cs s d
      (λ t v ne now u old. let same : Some v ≡ Some u = sym now ∙ old in let one : v ≡ u = cc same in
      subst (λ (w : ControlAt). CardsFollow settings r t (f ∷ []) w v) one (cards-other settings r t f v (λ e. ne (e ∙ sym here))))
      (λ u old. let same : Some c ≡ Some u = sym at ∙ old in let one : c ≡ u = cc same in
      subst (λ (w : ControlAt). CardsFollow settings r s (f ∷ []) w d) one
      (cards-own settings r s f c d card (λ k j. λ e. sym (moves-own f s k here) ∙ e) is (carded held) gives))
      t v there u was;
}

pub followed-none : (settings : Settings) (r : Run) (cs : List ControlAt) (f : Fact) → length cs ≤ place f → Followed settings r (f ∷ []) cs cs
followed-none settings r cs f past = λ held. record {
  many = refl;
  each = λ t v there. (v, there, stays f t v (λ e. let less = slice_get_within cs t v there in absurd (omega (arith, e, past, less))));
  cards = λ t u v was there. let same : Some v ≡ Some u = sym there ∙ was in let one : v ≡ u = cc same in let less = slice_get_within cs t v there in
      subst (λ (w : ControlAt). CardsFollow settings r t (f ∷ []) w v) one
      (cards-other settings r t f v (λ e. absurd (omega (arith, e, past, less))));
}

pub followed-first : (settings : Settings) (r : Run) (cs : List ControlAt) → Followed settings r [] cs cs
followed-first settings r cs = λ held. record {
  many = refl;
  each = λ t v there. (v, there, record { tells = nothing-by Tells t v; keeps_up = nothing-by KeepUp t v; seats = refl });
  cards = λ t u v was there. let same : Some v ≡ Some u = sym there ∙ was in let one : v ≡ u = cc same in
      subst (λ (w : ControlAt). CardsFollow settings r t [] w v) one (cards-none settings r t v);
}
  where
    nothing-by : (Says : Account → ControlView → Type 0) (t : ℕ) (v : ControlAt) → FollowsBy Says t [] v v
    nothing-by Says t v l k says is = let same : l.carried ≡ k = cc is in subst (λ (j : Carried). Says (record l { carried = j }) v.view) same says

contains-left : (xs ys : List Fact) (x : Fact) → Contains xs x → Contains (xs ++ ys) x
contains-left xs ys x (k, less, is) = in-contains (xs ++ ys) x (in-left xs ys x (contains-in xs x (k, less, is)))

contains-last : (xs : List Fact) (y x : Fact) → Contains (y ∷ []) x → Contains (xs ++ y ∷ []) x
contains-last xs y x is = in-contains (xs ++ y ∷ []) x (in-right xs (y ∷ []) x (contains-in (y ∷ []) x is))

then-by : (Says : Account → ControlView → Type 0) (t : ℕ) (fs : List Fact) (f : Fact) (a b c : ControlAt) → FollowsBy Says t fs a b → FollowsBy Says t (f ∷ []) b c → FollowsBy Says t (fs ++ f ∷ []) a c
then-by Says t fs f a b c first later l k says is = by_option (follow t fs l.carried)
    (λ none. let e = sym (follow-append t fs (f ∷ []) l.carried ∙ ap (option_and_then (follow t (f ∷ []))) none) ∙ is in absurd (cc e))
    (λ j some. later (record l { carried = j }) k (first l j says some) (sym (follow-append t fs (f ∷ []) l.carried ∙ ap (option_and_then (follow t (f ∷ []))) some) ∙ is))

followed-then : (settings : Settings) (r : Run) (fs : List Fact) (f : Fact) (a b c : List ControlAt) → Followed settings r fs a b → Followed settings r (f ∷ []) b c → Followed settings r (fs ++ f ∷ []) a c
followed-then settings r fs f a b c first later = λ held.
    let one = first (λ s id an epoch sak i. held s id an epoch sak (contains-left fs (f ∷ []) (facts.Installed s id an epoch sak) i)) in
    let two = later (λ s id an epoch sak i. held s id an epoch sak (contains-last fs f (facts.Installed s id an epoch sak) i)) in record {
      many = two.many ∙ one.many;
      each = λ t v there. let y = two.each t v there in let x = one.each t y.0 y.1 in (
        x.0,
        x.1,
        record {
          tells = then-by Tells t fs f x.0 y.0 v x.2.tells y.2.tells;
          keeps_up = then-by KeepUp t fs f x.0 y.0 v x.2.keeps_up y.2.keeps_up;
          seats = y.2.seats ∙ x.2.seats;
        },
      );
      cards = λ t u v was there. let y = two.each t v there in let x = one.each t y.0 y.1 in
          let same : Some x.0 ≡ Some u = sym x.1 ∙ was in let equal : x.0 ≡ u = cc same in
          subst (λ (w : ControlAt). CardsFollow settings r t (fs ++ f ∷ []) w v) equal
          (cards-then settings r t fs f x.0 y.0 v x.2.keeps_up
          (one.cards t x.0 y.0 x.1 y.1) (two.cards t y.0 v y.1 there));
    }

pub followed-next : (settings : Settings) (r : Run) (fs : List Fact) (i : ℕ) (f : Fact) (a b c : List ControlAt) → i < length fs → f ≡ get_or fs i f → Followed settings r (take i fs) a b → Followed settings r (f ∷ []) b c → Followed settings r (take (i + 1) fs) a c
followed-next settings r fs i f a b c less here first later =
    let e : take (i + 1) fs ≡ take i fs ++ f ∷ [] = ap (λ (n : ℕ). take n fs) (add-one i) ∙ (take-suc fs i f less ∙ ap (λ (g : Fact). take i fs ++ g ∷ []) (sym here)) in
    subst (λ (gs : List Fact). Followed settings r gs a c) (sym e) (followed-then settings r (take i fs) f a b c first later)

take-all : (fs : List Fact) (i : ℕ) → length fs ≤ i → take i fs ≡ fs
take-all [] zero less = refl
take-all [] (suc i) less = refl
take-all (f ∷ fs) zero less = absurd (omega arith)
take-all (f ∷ fs) (suc i) less = ap (λ (gs : List Fact). f ∷ gs) (take-all fs i (omega arith))

pub followed-end : (settings : Settings) (r : Run) (fs : List Fact) (i : ℕ) (a b : List ControlAt) → length fs ≤ i → Followed settings r (take i fs) a b → Followed settings r fs a b
followed-end settings r fs i a b past all = subst (λ (gs : List Fact). Followed settings r gs a b) (take-all fs i past) all
