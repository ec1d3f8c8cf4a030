-- Which rule a fact of a stepped run comes from.
use Rattle.std.proofs.Common.{◌≡◌, inl, inr, ℕ, true, false, List, [], ◌∷◌, refl, ap, sym, ◌∙◌}
use Rattle.std.proofs.Common.{subst}
use Rattle.std.proofs.Common.{Option, Some, None, Result, Ok, Err}
use Rattle.std.specs.Prelude.{◌==◌}
use Rattle.lan_base.specs.declared.association_number.AssociationNumber.{AssociationNumber}
use Rattle.lan_base.specs.declared.key_id.KeyId.{KeyId}
use Rattle.lan_base.specs.declared.frame.UserFrame.{UserFrame}
use Rattle.aes_block.specs.declared.secret.Secret.{Secret}
use Rattle.gcm_frames.specs.Tags.{is_sec}
use Rattle.mkpdu_codec.specs.declared.announcement.Announcement.{Announcement}
use Rattle.sak_exchange.specs.declared.change.Cause.{Cause}
use Rattle.sak_exchange.specs.declared.change.Change.{Change}
use Rattle.sak_exchange.specs.declared.change.Change.TheVariants as changes
use Rattle.sak_exchange.specs.declared.held_key.Key.{Key}
use Rattle.sak_exchange.specs.Held.{received, held}
use Rattle.sak_exchange.proofs.Public.{by_test}
use Rattle.mka_station.specs.declared.verdict.DropReason.{DropReason}
use Rattle.mka_station.specs.declared.reaction.Reaction.{Reaction}
use Rattle.mka_station.specs.Lives.{Member, Entry, ticked}
use Rattle.mka_station.specs.Views.{view}
use Rattle.mka_station.specs.Tick.{led, made, tick_turn}
use Rattle.mka_station.specs.Hearing.{judged, hear_turn, frame_turn, key_taken}
use Rattle.mka_station.specs.Restart.{ending}
use Rattle.mka_station.specs.Hearing.{follow_at, answer_at}
use Rattle.lan_core.specs.declared.event.Event.{Event}
use Rattle.lan_core.specs.declared.event.Event.TheVariants as events
use Rattle.lan_core.specs.declared.fact.Fact.{Fact}
use Rattle.lan_core.specs.declared.fact.Fact.TheVariants as facts
use Rattle.lan_core.specs.declared.settings.Settings.{Settings}
use Rattle.lan_core.specs.Run.{Run}
use Rattle.lan_core.specs.Ledgers.{next_frame}
use Rattle.lan_core.specs.Lives.{Life, life, seen_at, transmitting_at, sak_in}
use Rattle.lan_core.specs.Claims.{frame_of_claim}
use Rattle.lan_core.specs.Expected.{tick_facts, reached_facts, claim_fact, number_fact}
use Rattle.lan_core.specs.Expected.{reaction_facts}
use Rattle.group_safety.proofs.Members.{In, in-from_map}
use Rattle.group_safety.proofs.once.Nexts.{mapped}
use Rattle.group_safety.proofs.rollover.TurnFacts.{reacts, Reacts, Alters, IsBegun, IsPut}
use Rattle.group_safety.proofs.rollover.TurnFacts.{reacts-begins, reacts-puts, tick-alters}
use Rattle.group_safety.proofs.rollover.TurnFacts.{hear-alters}
use Rattle.group_safety.proofs.rollover.TurnFacts as from
use Rattle.group_safety.proofs.rollover.EventKinds.{Kind, IsReached}
use Rattle.group_safety.proofs.rollover.EventKinds as kinds

-- ---- a beginning

pub data BeginsBy (settings : Settings) (r : Run) (e : Event) (shown : List Fact) (s : ℕ)
    (id : KeyId) (epoch : ℕ) (cause : Cause) : Type 0 where
  leads : (next : ℕ) (l : Life) → e ≡ events.Tick s next → life settings s r ≡ Some l
      → IsBegun (led l.member (view l.member (ticked ∷ l.past))) id epoch cause
      → BeginsBy settings r e shown s id epoch cause
  follows : (number : ℕ) (octets : List ℕ) (l : Life) (a : Announcement)
      → IsReached r e s number octets → life settings s r ≡ Some l
      → is_sec octets ≡ false → judged l.member.setup octets ≡ Ok a
      → IsBegun (follow_at l.member a l.past) id epoch cause
      → BeginsBy settings r e shown s id epoch cause

no-second-begins : (re : Reaction) → re.changes ≡ [] → (c : Change) → In c re.changes
    → Alters None None c
no-second-begins re none c i = absurd (subst (λ cs. In c cs) none i)

no-beginning : (id : KeyId) (epoch : ℕ) (cause : Cause) → IsBegun None id epoch cause → ⊥
no-beginning id epoch cause b = let e = b.begins_now in cc (e)

ended-alters : (m : Member) (p : List Entry) (c : Change) → In c (ending m p).changes
    → Alters None None c
unfolding ending
ended-alters m p c i =
    let v = view m p in
    let r = in-from_map (λ k. changes.Dropped (held v.keys k)) (received v.keys) c i in
    from.removes (from.drops (held v.keys r.0) r.2)

heard-begins : (settings : Settings) (r : Run) (e : Event) (shown : List Fact) (s t number : ℕ)
    (octets : List ℕ) (l : Life) (id : KeyId) (an : AssociationNumber) (epoch : ℕ) (cause : Cause)
    → IsReached r e t number octets → life settings t r ≡ Some l
    → In (facts.Began s id an epoch cause) (reached_facts settings t r number octets l)
    → BeginsBy settings r e shown s id epoch cause
heard-begins settings r e shown s t number octets l id an epoch cause came living i =
    by_test (is_sec octets)
    (λ y. let j = rw y at i in elim j [ inl f ↦ absurd (cc (f)) | inr none ↦ absurd none ])
    (λ y. go (judged l.member.setup octets) refl y (rw y at i))
  where
    go : (j : Result Announcement DropReason) → judged l.member.setup octets ≡ j
        → is_sec octets ≡ false
        → In (facts.Began s id an epoch cause)
        (reaction_facts t number 0 (frame_turn l.member octets l.past).reaction)
        → BeginsBy settings r e shown s id epoch cause
    go (Ok a) is y i =
        let k = rw is at i in
        let b = reacts-begins t number 0 s id an epoch cause (hear_turn l.member a l.past).reaction
        (follow_at l.member a l.past) (key_taken (answer_at l.member a l.past))
        (hear-alters l.member a l.past)
        (reacts t number 0 (hear_turn l.member a l.past).reaction
        (facts.Began s id an epoch cause) k) in
        follows number octets l a (subst (λ v. IsReached r e v number octets) (sym b.0) came)
        (subst (λ v. life settings v r ≡ Some l) (sym b.0) living) y is b.1
    go (Err reason) is y i =
        let k = rw is at i in elim k [ inl f ↦ absurd (cc (f)) | inr none ↦ absurd none ]

claim-begins : (settings : Settings) (r : Run) (s t : ℕ) (id : KeyId) (an : AssociationNumber)
    (epoch : ℕ) (cause : Cause)
    (pn : ℕ) (k : Option Key)
    → facts.Began s id an epoch cause ≡ claim_fact settings t r pn k → ⊥
claim-begins settings r s t id an epoch cause pn k =
    by_test (pn == 0)
    (λ y. rw y (λ f. cc (f)))
    (λ y. rw y (go k))
  where
    go : (k : Option Key) → facts.Began s id an epoch cause ≡ number_fact t pn k → ⊥
    go None f = cc (f)
    go (Some k) f = cc (f)

pub begins-by : (settings : Settings) (users : List UserFrame) (r : Run) (e : Event)
    (shown : List Fact) (s : ℕ) (id : KeyId) (an : AssociationNumber) (epoch : ℕ) (cause : Cause)
    → Kind settings users r e shown → In (facts.Began s id an epoch cause) shown
    → BeginsBy settings r e shown s id epoch cause
begins-by settings users r e shown s id an epoch cause (kinds.starts name sci priority mi ev is) i =
    elim (subst (λ w. In (facts.Began s id an epoch cause) w) is i) [
      | inl f ↦ absurd
          (cc (f))
      | inr none ↦ absurd none
    ]
begins-by settings users r e shown s id an epoch cause (kinds.ticks t next l ev living is) i =
    elim (subst (λ w. In (facts.Began s id an epoch cause) w) is i) [
      | inl f ↦ absurd (cc (f))
      | inr j ↦
          let seen = seen_at settings t r l next in
          let sak = sak_in shown in
          let b = reacts-begins t 0 (next_frame r) s id an epoch cause
          (tick_turn l.member seen sak l.past).reaction
          (led l.member (view l.member (ticked ∷ l.past)))
          (made l.member (view l.member (ticked ∷ l.past)) seen sak)
          (tick-alters l.member seen sak l.past)
          (reacts t 0 (next_frame r) (tick_turn l.member seen sak l.past).reaction
          (facts.Began s id an epoch cause) j) in
          leads next l (ev ∙ ap (λ v. events.Tick v next) (sym b.0))
          (subst (λ v. life settings v r ≡ Some l) (sym b.0) living) b.1
    ]
begins-by settings users r e shown s id an epoch cause
    (kinds.reached t number octets l came living is) i =
    heard-begins settings r e shown s t number octets l id an epoch cause came living
    (subst (λ w. In (facts.Began s id an epoch cause) w) is i)
begins-by settings users r e shown s id an epoch cause
    (kinds.restarts t mi l ev drawn living is) i =
    elim (subst (λ w. In (facts.Began s id an epoch cause) w) is i) [
      | inl f ↦ absurd (cc (f))
      | inr j ↦
          let b = reacts-begins t 0 0 s id an epoch cause (ending l.member l.past) None None
          (ended-alters l.member l.past)
          (reacts t 0 0 (ending l.member l.past) (facts.Began s id an epoch cause) j) in
          absurd (no-beginning id epoch cause b.1)
    ]
begins-by settings users r e shown s id an epoch cause (kinds.claims t user pn ev is) i =
    elim (subst (λ w. In (facts.Began s id an epoch cause) w) is i) [
      | inl f ↦ absurd (claim-begins settings r s t id an epoch cause pn
          (transmitting_at settings t r) f)
      | inr none ↦ absurd none
    ]
begins-by settings users r e shown s id an epoch cause (kinds.emits w ev waits is) i =
    let m = mapped (λ octets. facts.Framed (next_frame r) w.station true octets ∷ [])
    (frame_of_claim users r w) shown is in
    elim (subst (λ v. In (facts.Began s id an epoch cause) v) (sym m.2) i) [
      | inl f ↦ absurd
          (cc (f))
      | inr none ↦ absurd none
    ]

-- ---- an install at a tick

pub record PutsBy (settings : Settings) (r : Run) (shown : List Fact) (s next : ℕ) (t : ℕ)
    (id : KeyId) (an : AssociationNumber) (epoch : ℕ) (sak : Secret) : Type 0 where
  pub same_station : t ≡ s
  pub life_now : Life
  pub living : life settings s r ≡ Some life_now
  pub puts : IsPut (made life_now.member (view life_now.member (ticked ∷ life_now.past))
      (seen_at settings s r life_now next) (sak_in shown)) id an epoch sak

pub puts-by : (settings : Settings) (users : List UserFrame) (r : Run) (e : Event)
    (shown : List Fact) (s next t : ℕ) (id : KeyId) (an : AssociationNumber) (epoch : ℕ)
    (sak : Secret)
    → Kind settings users r e shown → e ≡ events.Tick s next
    → In (facts.Installed t id an epoch sak) shown
    → PutsBy settings r shown s next t id an epoch sak
puts-by settings users r e shown s next t id an epoch sak
    (kinds.starts name sci priority mi ev is) tick i = absurd (cc (ev, tick))
puts-by settings users r e shown s next t id an epoch sak (kinds.ticks u n l ev living is) tick i =
    let same_u : u ≡ s = let f = sym ev ∙ tick in cc (f) in
    let same_n : n ≡ next = let f = sym ev ∙ tick in cc (f) in
    let mine : life settings s r ≡ Some l = subst (λ v. life settings v r ≡ Some l) same_u living in
    let facts_here : shown ≡ tick_facts settings s r next (sak_in shown) l = is
    ∙ ap (λ v. tick_facts settings v r n (sak_in shown) l) same_u
    ∙ ap (λ v. tick_facts settings s r v (sak_in shown) l) same_n in
    elim (subst (λ w. In (facts.Installed t id an epoch sak) w) facts_here i) [
      | inl f ↦ absurd (cc (f))
      | inr j ↦
          let seen = seen_at settings s r l next in
          let drawn = sak_in shown in
          let b = reacts-puts s 0 (next_frame r) t id an epoch sak
          (tick_turn l.member seen drawn l.past).reaction
          (led l.member (view l.member (ticked ∷ l.past)))
          (made l.member (view l.member (ticked ∷ l.past)) seen drawn)
          (tick-alters l.member seen drawn l.past)
          (reacts s 0 (next_frame r) (tick_turn l.member seen drawn l.past).reaction
          (facts.Installed t id an epoch sak) j) in
          record { same_station = b.0; life_now = l; living = mine; puts = b.1 }
    ]
puts-by settings users r e shown s next t id an epoch sak
    (kinds.reached u number octets l (kinds.delivered f there is ev) living q) tick i =
    absurd (cc (ev, tick))
puts-by settings users r e shown s next t id an epoch sak
    (kinds.reached u number octets l (kinds.injected z ev) living q) tick i = absurd (cc (ev, tick))
puts-by settings users r e shown s next t id an epoch sak
    (kinds.restarts u mi l ev drawn living is) tick i = absurd (cc (ev, tick))
puts-by settings users r e shown s next t id an epoch sak (kinds.claims u user pn ev is) tick i =
    absurd (cc (ev, tick))
puts-by settings users r e shown s next t id an epoch sak (kinds.emits w ev waits is) tick i =
    absurd (cc (ev, tick))

-- ---- a claim

pub record ClaimsBy (settings : Settings) (r : Run) (e : Event) (s : ℕ) (an : AssociationNumber)
    (epoch pn : ℕ) : Type 0 where
  pub user : ℕ
  pub event : e ≡ events.Claim s user pn
  pub key : Key
  pub sends : transmitting_at settings s r ≡ Some key
  pub an_is : key.an ≡ an
  pub epoch_is : key.epoch ≡ epoch
  pub number : (pn == 0) ≡ false

claimed-fact : (settings : Settings) (r : Run) (e : Event) (s : ℕ) (an : AssociationNumber)
    (epoch pn t user n : ℕ)
    → e ≡ events.Claim t user n
    → facts.Claimed s an epoch pn ≡ claim_fact settings t r n (transmitting_at settings t r)
    → ClaimsBy settings r e s an epoch pn
claimed-fact settings r e s an epoch pn t user n ev is =
    by_test (n == 0)
    (λ y. let f = rw y at is in absurd (cc (f)))
    (λ y. go (transmitting_at settings t r) refl y (rw y at is))
  where
    go : (k : Option Key) → transmitting_at settings t r ≡ k → (n == 0) ≡ false
        → facts.Claimed s an epoch pn ≡ number_fact t n (transmitting_at settings t r)
        → ClaimsBy settings r e s an epoch pn
    go None none y f = let g = rw none at f in absurd (cc (g))
    go (Some k) sends y f =
        let g : facts.Claimed s an epoch pn ≡ facts.Claimed t k.an k.epoch n = rw sends at f in
        let same_s : s ≡ t = cc (g) in
        let same_n : pn ≡ n = cc (g) in
        record {
          user = user;
          event = ev ∙ ap (λ v. events.Claim v user n) (sym same_s)
              ∙ ap (λ v. events.Claim s user v) (sym same_n);
          key = k;
          sends = subst (λ v. transmitting_at settings v r ≡ Some k) (sym same_s) sends;
          an_is = (let h : an ≡ k.an = cc (g) in sym h);
          epoch_is = (let h : epoch ≡ k.epoch = cc (g) in sym h);
          number = subst (λ v. (v == 0) ≡ false) (sym same_n) y;
        }

reacts-claims : (s h n t : ℕ) (an : AssociationNumber) (epoch pn : ℕ) (re : Reaction)
    → Reacts s h n re (facts.Claimed t an epoch pn) → ⊥
reacts-claims s h n t an epoch pn re (from.hears v e) = cc (e)
reacts-claims s h n t an epoch pn re (from.serves m e) = cc (e)
reacts-claims s h n t an epoch pn re (from.alters (changes.Dropped k) i e) = cc (e)
reacts-claims s h n t an epoch pn re (from.alters (changes.Retired k) i e) = cc (e)
reacts-claims s h n t an epoch pn re (from.alters (changes.Began k cause) i e) = cc (e)
reacts-claims s h n t an epoch pn re (from.alters (changes.Installed k) i e) = cc (e)
reacts-claims s h n t an epoch pn re (from.alters (changes.Untaken id why) i e) = cc (e)
reacts-claims s h n t an epoch pn re (from.sends octets is e) = cc (e)

reached-claims : (settings : Settings) (r : Run) (t number : ℕ) (octets : List ℕ) (l : Life)
    (s : ℕ) (an : AssociationNumber) (epoch pn : ℕ)
    → In (facts.Claimed s an epoch pn) (reached_facts settings t r number octets l) → ⊥
reached-claims settings r t number octets l s an epoch pn i =
    by_test (is_sec octets)
    (λ y. elim (rw y at i) [ inl f ↦ cc (f) | inr none ↦ none ])
    (λ y. reacts-claims t number 0 s an epoch pn (frame_turn l.member octets l.past).reaction
    (reacts t number 0 (frame_turn l.member octets l.past).reaction (facts.Claimed s an epoch pn)
    (rw y at i)))

pub claims-by : (settings : Settings) (users : List UserFrame) (r : Run) (e : Event)
    (shown : List Fact) (s : ℕ) (an : AssociationNumber) (epoch pn : ℕ)
    → Kind settings users r e shown → In (facts.Claimed s an epoch pn) shown
    → ClaimsBy settings r e s an epoch pn
claims-by settings users r e shown s an epoch pn (kinds.starts name sci priority mi ev is) i =
    elim (subst (λ w. In (facts.Claimed s an epoch pn) w) is i) [
      | inl f ↦ absurd
          (cc (f))
      | inr none ↦ absurd none
    ]
claims-by settings users r e shown s an epoch pn (kinds.ticks t next l ev living is) i =
    elim (subst (λ w. In (facts.Claimed s an epoch pn) w) is i) [
      | inl f ↦ absurd (cc (f))
      | inr j ↦ absurd (reacts-claims t 0 (next_frame r) s an epoch pn _
          (reacts t 0 (next_frame r) _ (facts.Claimed s an epoch pn) j))
    ]
claims-by settings users r e shown s an epoch pn
    (kinds.reached t number octets l came living is) i =
    absurd (reached-claims settings r t number octets l s an epoch pn
    (subst (λ w. In (facts.Claimed s an epoch pn) w) is i))
claims-by settings users r e shown s an epoch pn (kinds.restarts t mi l ev drawn living is) i =
    elim (subst (λ w. In (facts.Claimed s an epoch pn) w) is i) [
      | inl f ↦ absurd (cc (f))
      | inr j ↦ absurd (reacts-claims t 0 0 s an epoch pn _
          (reacts t 0 0 _ (facts.Claimed s an epoch pn) j))
    ]
claims-by settings users r e shown s an epoch pn (kinds.claims t user n ev is) i =
    elim (subst (λ w. In (facts.Claimed s an epoch pn) w) is i) [
      | inl f ↦ claimed-fact settings r e s an epoch pn t user n ev f
      | inr none ↦ absurd none
    ]
claims-by settings users r e shown s an epoch pn (kinds.emits w ev waits is) i =
    let m = mapped (λ octets. facts.Framed (next_frame r) w.station true octets ∷ [])
    (frame_of_claim users r w) shown is in
    elim (subst (λ v. In (facts.Claimed s an epoch pn) v) (sym m.2) i) [
      | inl f ↦ absurd
          (cc (f))
      | inr none ↦ absurd none
    ]
