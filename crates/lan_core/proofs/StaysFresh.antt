-- A fresh run stays fresh, and an unforged one unforged, with a step that nothing stops.
use Rattle.std.proofs.Common.{◌≡◌, ◌≢◌, ◌∙◌, ◌+◌, ℕ, Bool, true, false, cond, List, [], ◌∷◌, length}
use Rattle.std.proofs.Common.{map}
use Rattle.std.proofs.Common.{Option, Some, None, refl, sym, ap, subst, arith}
use Rattle.std.proofs.lemmas.Cmp.{nat_list_eq_equiv}
use Rattle.std.specs.Prelude.{◌==◌, option_map, option_and_then}
use Rattle.std.specs.Option.{option_or}
use Rattle.lan_base.specs.declared.address.Mi.{Mi}
use Rattle.lan_base.specs.declared.frame.UserFrame.{UserFrame}
use Rattle.lan_base.specs.declared.suite.Suite.{Suite}
use Rattle.lan_base.specs.Identifiers.{same_mi}
use Rattle.aes_block.specs.Secrets.{same_secret, secret_octets}
use Rattle.aes_block.specs.declared.secret.Secret.{Secret}
use Rattle.aes_block.specs.declared.secret.Secret.TheVariants.{S128, S256}
use Rattle.gcm_frames.specs.Tags.{is_sec}
use Rattle.rx_slots.specs.Numbers.{answer}
use Rattle.sak_exchange.specs.declared.held_key.Key.{Key}
use Rattle.mka_station.specs.Hearing.{frame_turn}
use Rattle.mka_station.specs.Restart.{ending}
use Rattle.lan_core.specs.declared.event.Event.{Event}
use Rattle.lan_core.specs.declared.event.Event.TheVariants as events
use Rattle.lan_core.specs.declared.fact.Fact.{Fact}
use Rattle.lan_core.specs.declared.fact.Fact.TheVariants as facts
use Rattle.lan_core.specs.declared.fact.Lack.TheVariants.{NoKey}
use Rattle.lan_core.specs.declared.settings.Settings.{Settings}
use Rattle.lan_core.specs.declared.stop.Stop.TheVariants.{RepeatedDraw, Forged}
use Rattle.lan_core.specs.Run.{Run, Happening, stations}
use Rattle.lan_core.specs.Ledgers.{Birth, born, births, gather, with_one, next_frame}
use Rattle.lan_core.specs.Lives.{Life, life, receiving, drawn_mi, turn_at_tick, transmitting_at}
use Rattle.lan_core.specs.Claims.{waiting, frame_of_claim}
use Rattle.lan_core.specs.Expected.{expected, drawn_in, tick_facts, reached_facts, restart_facts}
use Rattle.lan_core.specs.Expected.{reaction_facts}
use Rattle.lan_core.specs.Expected.{claim_fact, number_fact, lack, emit_facts}
use Rattle.lan_core.specs.Order.{IsOfSuite, IsAllowed}
use Rattle.lan_core.specs.Types.{IfDrawn}
use Rattle.lan_core.specs.Legal.{IsStep, IsStepped}
use Rattle.lan_base.specs.Differing.{AllDiffer, DiffersFrom}
use Rattle.lan_core.specs.Fresh.{IsFresh, drawn_mis, drawn_saks, sak_drawn}
use Rattle.lan_core.specs.Fresh.{IsUnforged, IsUnforgedBy}
use Rattle.lan_core.specs.Fresh.{is_forged}
use Rattle.lan_core.specs.Stops.{mi_number, sak_number, sak_of_tick, is_drawn}
use Rattle.lan_core.specs.Stops.{draws_in, drawn_before}
use Rattle.lan_core.specs.Stops.{stop_of_draw, stop_of_forgery}
use Rattle.lan_core.proofs.FramesNumbered.{mapped, chained}
use Rattle.lan_core.proofs.OwnLedgers.{reaction-begins-none}

-- ---- births

no_births : (fs : List Fact) (bs : List Birth) → drawn_mi fs ≡ None → gather born fs bs ≡ bs
no_births [] bs none = refl
no_births (facts.Life station mi ∷ fs) bs none = absurd (cc none)
no_births (_ ∷ fs) bs none = no_births fs bs none

-- facts begin one life at most
abbrev pub BeginsOne : List Fact → Type 0
BeginsOne fs = (bs : List Birth)
    → map (λ b. b.mi) (gather born fs bs) ≡ with_one (drawn_mi fs) (map (λ b. b.mi) bs)

begins_none : (fs : List Fact) → drawn_mi fs ≡ None → BeginsOne fs
begins_none fs none bs =
    ap (map (λ b. b.mi)) (no_births fs bs none)
    ∙ ap (λ o. with_one o (map (λ b. b.mi) bs)) (sym none)

begins_first : (s : ℕ) (mi : Mi) (later : List Fact) → drawn_mi later ≡ None
    → BeginsOne (facts.Life s mi ∷ later)
begins_first s mi later none bs =
    ap (map (λ b. b.mi)) (no_births later (record { station = s; mi = mi } ∷ bs) none)

reached_begins : (settings : Settings) (s : ℕ) (r : Run) (number : ℕ) (octets : List ℕ) (l : Life)
    → BeginsOne (reached_facts settings s r number octets l)
reached_begins settings s r number octets l = go (is_sec octets)
  where
    go : (b : Bool) → BeginsOne (cond b
        (facts.Arrived number s
        (answer l.member.setup.sci settings.window (receiving s r) octets) ∷ [])
        (reaction_facts s number 0 (frame_turn l.member octets l.past).reaction))
    go true =
        begins_none
        (facts.Arrived number s
        (answer l.member.setup.sci settings.window (receiving s r) octets) ∷ []) refl
    go false =
        let reaction = (frame_turn l.member octets l.past).reaction in
        begins_none (reaction_facts s number 0 reaction) (reaction-begins-none s number 0 reaction)

claim_begins : (settings : Settings) (s : ℕ) (r : Run) (pn : ℕ) (k : Option Key)
    → BeginsOne (claim_fact settings s r pn k ∷ [])
claim_begins settings s r pn k = go (pn == 0) k
  where
    go : (b : Bool) (k : Option Key)
        → BeginsOne (cond b (facts.Unclaimed s (lack settings s r k)) (number_fact s pn k) ∷ [])
    go true k = begins_none (facts.Unclaimed s (lack settings s r k) ∷ []) refl
    go false None = begins_none (facts.Unclaimed s NoKey ∷ []) refl
    go false (Some k) = begins_none (facts.Claimed s k.an k.epoch pn ∷ []) refl

pub step_begins : (settings : Settings) (users : List UserFrame) (r : Run) (event : Event)
    (shown : List Fact)
    → expected settings users r event (drawn_in shown) ≡ Some shown → BeginsOne shown
unfolding expected
step_begins settings users r (events.Start name sci priority) shown shows =
    let begins = mapped (λ mi. facts.Life (length (stations r)) mi ∷ []) (drawn_mi shown) shown
    shows in
    subst BeginsOne begins.2 (begins_first (length (stations r)) begins.0 [] refl)
step_begins settings users r (events.Tick s next) shown shows =
    let lives = mapped (tick_facts settings s r next (drawn_in shown).sak) (life settings s r) shown
    shows in
    subst BeginsOne lives.2
    (begins_none (tick_facts settings s r next (drawn_in shown).sak lives.0)
    (reaction-begins-none s 0 (next_frame r)
    (turn_at_tick settings s r lives.0 next (drawn_in shown).sak).reaction))
step_begins settings users r (events.Deliver frame s) shown shows =
    let there =
    chained (λ f. option_map (reached_facts settings s r frame f.octets) (life settings s r)) _
    shown shows in
    let lives = mapped (reached_facts settings s r frame there.0.octets) (life settings s r) shown
    there.2 in
    subst BeginsOne lives.2 (reached_begins settings s r frame there.0.octets lives.0)
step_begins settings users r (events.Restart s) shown shows =
    let begins = chained (λ mi. option_map (restart_facts s mi) (life settings s r))
    (drawn_mi shown) shown shows in
    let lives = mapped (restart_facts s begins.0) (life settings s r) shown begins.2 in
    subst BeginsOne lives.2
    (begins_first s begins.0 (reaction_facts s 0 0 (ending lives.0.member lives.0.past))
    (reaction-begins-none s 0 0 (ending lives.0.member lives.0.past)))
step_begins settings users r (events.Claim s user pn) shown shows =
    let lives = mapped (λ l. claim_fact settings s r pn (transmitting_at settings s r) ∷ [])
    (life settings s r) shown shows in
    subst BeginsOne lives.2 (claim_begins settings s r pn (transmitting_at settings s r))
step_begins settings users r events.Emit shown shows =
    let waits = chained (emit_facts users r) (waiting settings r) shown shows in
    let puts = mapped (λ octets. facts.Framed (next_frame r) waits.0.station true octets ∷ [])
    (frame_of_claim users r waits.0)
    shown waits.2 in
    subst BeginsOne puts.2
    (begins_none (facts.Framed (next_frame r) waits.0.station true puts.0 ∷ []) refl)
step_begins settings users r (events.Inject s octets) shown shows =
    let lives = mapped (reached_facts settings s r 0 octets) (life settings s r) shown shows in
    subst BeginsOne lives.2 (reached_begins settings s r 0 octets lives.0)

mis-next : (settings : Settings) (users : List UserFrame) (x : Happening) (r : Run)
    → IsStep settings users x r
    → drawn_mis (x ∷ r) ≡ with_one (drawn_mi x.facts) (drawn_mis r)
unfolding births
mis-next settings users x r step = step_begins settings users r x.event x.facts step.shows
    (births r)

-- ---- an identifier that was not drawn differs from those that were

pub mi_itself : (a b : Mi) → same_mi a b ≡ false → a ≢ b
mi_itself a b differ same =
    absurd (cc (nat_list_eq_equiv.refl a.0, subst (λ b. same_mi a b ≡ false) (sym same) differ))

pub other : {A : Type 0} (b : Bool) (a : A) (o : Option A) → cond b (Some a) o ≡ None → (b ≡ false)
    × (o ≡ None)
other true a o none = absurd (cc none)
other false a o none = (refl, none)

pub differs_more : {A : Type 0} (a : A) (o : Option A) (bs : List A) → ((b : A) → o ≡ Some b → a ≢ b)
    → DiffersFrom a bs
    → DiffersFrom a (with_one o bs)
differs_more a None bs differs from = from
differs_more a (Some b) bs differs from = (differs b refl, from)

pub undrawn : {A : Type 0} (same : A → A → Bool) (a : A) (o : Option A) → is_drawn same a o ≡ false
    → (b : A) → o ≡ Some b
    → same a b ≡ false
undrawn same a o differ b is = sym (ap (is_drawn same a) is) ∙ differ

mi-differs : (settings : Settings) (users : List UserFrame) (suite : Suite) (mi : Mi) (r : Run)
    → IsStepped settings users r
    → mi_number suite r mi ≡ None → DiffersFrom mi (drawn_mis r)
unfolding mi_number births
mi-differs settings users suite mi [] stepped none = tt
mi-differs settings users suite mi (x ∷ r) (step, before) none =
    let parts = other (is_drawn same_mi mi (drawn_mi x.facts)) (draws_in suite r + 1)
    (mi_number suite r mi) none in
    subst (DiffersFrom mi) (sym (mis-next settings users x r step))
    (differs_more mi (drawn_mi x.facts) (drawn_mis r)
    (λ b is. mi_itself mi b (undrawn same_mi mi (drawn_mi x.facts) parts.0 b is))
    (mi-differs settings users suite mi r before parts.1))

-- ---- and so does a SAK

pub secrets_differ : (settings : Settings) (a b : Secret) → IsOfSuite settings a → IsOfSuite settings b
    → same_secret a b ≡ false → secret_octets a ≢ secret_octets b
secrets_differ settings (S128 a) (S128 b) here there differ same =
    absurd (cc (
      nat_list_eq_equiv.refl a,
      subst (λ b. same_secret (S128 a) (S128 b) ≡ false) (sym same)
          differ,
    ))
secrets_differ settings (S256 a) (S256 b) here there differ same =
    absurd (cc (
      nat_list_eq_equiv.refl a,
      subst (λ b. same_secret (S256 a) (S256 b) ≡ false) (sym same)
          differ,
    ))
secrets_differ settings (S128 a) (S256 b) here there differ same =
    let narrow = here.secret.0 in
    let wide = there.secret.0 in
    let equal = ap length same in
    absurd (omega (arith, narrow, wide, equal))
secrets_differ settings (S256 a) (S128 b) here there differ same =
    let narrow = there.secret.0 in
    let wide = here.secret.0 in
    let equal = ap length same in
    absurd (omega (arith, narrow, wide, equal))

-- what a step drew is of the suite
tick_suits : (settings : Settings) (users : List UserFrame) (x : Happening) (r : Run)
    (event : Event) → x.event ≡ event
    → IsStep settings users x r → (sak : Secret) → sak_of_tick x.facts event ≡ Some sak
    → IsOfSuite settings sak
tick_suits settings users x r (events.Tick s next) is step sak drew =
    subst (IfDrawn (IsOfSuite settings)) drew
    (subst (λ e. IsAllowed settings users r x e) is step.in_order.1).2
tick_suits settings users x r (events.Start name sci priority) is step sak drew = absurd (cc drew)
tick_suits settings users x r (events.Deliver frame s) is step sak drew = absurd (cc drew)
tick_suits settings users x r (events.Restart s) is step sak drew = absurd (cc drew)
tick_suits settings users x r (events.Claim s user pn) is step sak drew = absurd (cc drew)
tick_suits settings users x r events.Emit is step sak drew = absurd (cc drew)
tick_suits settings users x r (events.Inject s octets) is step sak drew = absurd (cc drew)

pub suits : (settings : Settings) (users : List UserFrame) (x : Happening) (r : Run)
    → IsStep settings users x r
    → (sak : Secret) → sak_of_tick x.facts x.event ≡ Some sak → IsOfSuite settings sak
suits settings users x r step = tick_suits settings users x r x.event refl step

sak-of : (shown : List Fact) (event : Event)
    → sak_drawn shown event ≡ option_map secret_octets (sak_of_tick shown event)
sak-of shown (events.Tick s next) = refl
sak-of shown (events.Start name sci priority) = refl
sak-of shown (events.Deliver frame s) = refl
sak-of shown (events.Restart s) = refl
sak-of shown (events.Claim s user pn) = refl
sak-of shown events.Emit = refl
sak-of shown (events.Inject s octets) = refl

pub saks-next : (x : Happening) (r : Run)
    → drawn_saks (x ∷ r) ≡ with_one (option_map secret_octets (sak_of_tick x.facts x.event))
    (drawn_saks r)
unfolding drawn_saks
saks-next x r = ap (λ o. with_one o (drawn_saks r)) (sak-of x.facts x.event)

sak-differs : (settings : Settings) (users : List UserFrame) (suite : Suite) (sak : Secret)
    → IsOfSuite settings sak → (r : Run)
    → IsStepped settings users r → sak_number suite r sak ≡ None
    → DiffersFrom (secret_octets sak) (drawn_saks r)
unfolding sak_number drawn_saks
sak-differs settings users suite sak is [] stepped none = tt
sak-differs settings users suite sak is (x ∷ r) (step, before) none =
    let drew = sak_of_tick x.facts x.event in
    let parts = other (is_drawn same_secret sak drew) (draws_in suite r + 1)
    (sak_number suite r sak) none in
    subst (DiffersFrom (secret_octets sak)) (sym (saks-next x r))
    (differs_more (secret_octets sak) (option_map secret_octets drew) (drawn_saks r)
    (λ octets there.
    let b = mapped secret_octets drew octets there in
    subst (λ octets. secret_octets sak ≢ octets) b.2
    (secrets_differ settings sak b.0 is (suits settings users x r step b.0 b.1)
    (undrawn same_secret sak drew parts.0 b.0 b.1)))
    (sak-differs settings users suite sak is r before parts.1))

-- ---- a step more

pub all_more : {A : Type 0} (o : Option A) (bs : List A) → ((a : A) → o ≡ Some a → DiffersFrom a bs)
    → AllDiffer bs
    → AllDiffer (with_one o bs)
all_more None bs differs all = all
all_more (Some a) bs differs all = (differs a refl, all)

pub no_first : {A B : Type 0} (f : A → Option B) (o : Option A) → option_and_then f o ≡ None → (a : A)
    → o ≡ Some a
    → f a ≡ None
no_first f o none a is = sym (ap (option_and_then f) is) ∙ none

pub neither : {A : Type 0} (o p : Option A) → option_or o p ≡ None → (o ≡ None) × (p ≡ None)
neither None p none = (refl, none)
neither (Some a) p none = absurd (cc none)

pub unmapped : {A B : Type 0} (f : A → B) (o : Option A) → option_map f o ≡ None → o ≡ None
unmapped f None none = refl
unmapped f (Some a) none = absurd (cc none)

pub stays-fresh : (settings : Settings) (users : List UserFrame) (x : Happening) (r : Run)
    → IsStepped settings users r
    → IsStep settings users x r → stop_of_draw settings.suite r x ≡ None → IsFresh r
    → IsFresh (x ∷ r)
stays-fresh settings users x r stepped step none fresh =
    let suite = settings.suite in
    let drew = sak_of_tick x.facts x.event in
    let before = unmapped (λ first. RepeatedDraw first (draws_in suite r + 1))
    (drawn_before suite r x) none in
    let parts = neither (option_and_then (mi_number suite r) (drawn_mi x.facts))
    (option_and_then (sak_number suite r) drew) before in
    record {
      mis = subst AllDiffer (sym (mis-next settings users x r step))
          (all_more (drawn_mi x.facts) (drawn_mis r)
          (λ mi is. mi-differs settings users suite mi r stepped
          (no_first (mi_number suite r) (drawn_mi x.facts) parts.0 mi is))
          fresh.mis);
      saks = subst AllDiffer (sym (saks-next x r))
          (all_more (option_map secret_octets drew) (drawn_saks r)
          (λ octets there.
          let sak = mapped secret_octets drew octets there in
          subst (λ octets. DiffersFrom octets (drawn_saks r)) sak.2
          (sak-differs settings users suite sak.0 (suits settings users x r step sak.0 sak.1) r
          stepped
          (no_first (sak_number suite r) drew parts.1 sak.0 sak.1)))
          fresh.saks);
    }

-- ---- forgery

unforged_by : (settings : Settings) (r : Run) (event : Event)
    → stop_of_forgery settings r event ≡ None
    → IsUnforgedBy settings r event
unforged_by settings r (events.Inject s octets) none =
    (other (is_forged settings r octets) (Forged s) None none).0
unforged_by settings r (events.Start name sci priority) none = tt
unforged_by settings r (events.Tick s next) none = tt
unforged_by settings r (events.Deliver frame s) none = tt
unforged_by settings r (events.Restart s) none = tt
unforged_by settings r (events.Claim s user pn) none = tt
unforged_by settings r events.Emit none = tt

pub stays-unforged : (settings : Settings) (x : Happening) (r : Run)
    → stop_of_forgery settings r x.event ≡ None
    → IsUnforged settings r → IsUnforged settings (x ∷ r)
stays-unforged settings x r none unforged = (unforged_by settings r x.event none, unforged)
