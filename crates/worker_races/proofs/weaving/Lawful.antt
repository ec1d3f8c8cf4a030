-- The law of a race: the run with the merged list behind it is legal.
use Rattle.std.proofs.Common.{◌≡◌, ◌⊎◌, ◌<◌, ℕ, suc, Bool, true, false, cond}
use Rattle.lan_base.specs.declared.association_number.AssociationNumber.{AssociationNumber}
use Rattle.std.proofs.Common.{List, [], ◌∷◌, length, refl, sym, ap, ◌∙◌, subst, arith, inl, inr}
use Rattle.std.proofs.Common.{Option, Some, None, filter}
use Rattle.std.specs.List.{AllByRecursion}
use Rattle.std.specs.Prelude.{nat_lt}
use Rattle.std.proofs.lemmas.Bool.{eq-eqb, ne_eqb, cond-true, cond-false}
use Rattle.lan_base.specs.declared.frame.UserFrame.{UserFrame}
use Rattle.sak_exchange.specs.declared.held_key.Key.{Key}
use Rattle.lan_core.specs.declared.event.Event.{Event}
use Rattle.lan_core.specs.declared.event.Event.TheVariants as events
use Rattle.lan_core.specs.declared.fact.Fact.TheVariants as facts
use Rattle.lan_core.specs.declared.fact.Lack.TheVariants.{NoKey, Exhausted}
use Rattle.lan_core.specs.declared.settings.Settings.{Settings}
use Rattle.lan_core.specs.Run.{Run, stations}
use Rattle.lan_core.specs.Lives.{transmitting_at}
use Rattle.lan_core.specs.Claims.{next}
use Rattle.lan_core.specs.Expected.{lack, last_number}
use Rattle.lan_core.specs.Types.{IsSetting}
use Rattle.lan_core.specs.Order.{Exists, IsWithin, is_event_of}
use Rattle.lan_core.specs.Legal.{IsStepped, IsLegal, Ahead, none_ahead, with_ahead, is_excuse, is_excused_by, is_replaced, IsExcusedBefore}
use Rattle.lan_core.proofs.Public.{others-change-none}
use Rattle.worker_races.specs.merge.Places.{Move, Attempt}
use Rattle.worker_races.specs.merge.Marks.{Mark, Control, Claim}
use Rattle.worker_races.specs.merge.Merged.{numbered}
use Rattle.worker_races.specs.merge.inside.Ordered.{InOrder, AreInOrder, is_control, replaced, now as now_in}
use Rattle.worker_races.specs.merge.Raced.{epoch_of, epoch_at, IsMove, AreMoves, ShowsCore, before_of, claim_after, IsAttempt, woven}
use Rattle.lan_core.proofs.Public.{AreOther, is-claim, excused-other}
use Rattle.lan_core.proofs.Public as first
use Rattle.worker_races.proofs.weaving.Agree.{own-of, number-told, none-told}
use Rattle.lan_core.proofs.Public.{transmits-same}
use Rattle.worker_races.proofs.weaving.Stepped.{Agrees, agrees-nil, agrees-control, agrees-claim, control-step, claim-step, claim-key}

-- what comes, by the marks that come
abbrev pub ahead_of : List Mark → Ahead
ahead_of [] = none_ahead
ahead_of (Control n m ∷ zs) = with_ahead m.x (ahead_of zs)
ahead_of (Claim x ∷ zs) = ahead_of zs

-- each claim that comes is one of the race
abbrev pub EachClaim : (Attempt → Type 0) → Mark → Type 0
EachClaim P (Control n m) = Unit {0}
EachClaim P (Claim x) = P x

-- the next step of control
pub head-move : (n k : ℕ) (m : Move) (zs : List Mark) (ms : List Move)
    → Control n m ∷ filter is_control zs ≡ numbered k ms
    → (rest : List Move) × (ms ≡ m ∷ rest) × (filter is_control zs ≡ numbered (suc k) rest)
unfolding numbered
head-move n k m zs [] left = absurd (cc left)
head-move n k m zs (u ∷ ms) left =
    let same : u ≡ m = cc left in
    let rest : filter is_control zs ≡ numbered (suc k) ms = cc left in
    (ms, ap (λ v. v ∷ ms) same, rest)

module _ (settings : Settings) (users : List UserFrame) (base : ℕ) (ans : ℕ → ℕ → AssociationNumber) (pointed : ℕ → ℕ) (r : Run) where
  -- a claim of the race, of a key's epoch where it got a number
  abbrev pub IsGood : Attempt → Type 0
  IsGood x = IsAttempt users base ans r x × (x.refused ≡ false → 0 < x.epoch)

  -- a step of control needs no excuse
  control-excused : (c q : Run) (m : Move) (ahead : Ahead) → IsMove settings users c m
      → is_excused_by settings q ahead m.x.facts ≡ true
  control-excused c q m ahead move =
      excused-other settings q ahead m.x.facts
      (other m.x.event move.own (is-claim settings users c m.x.event m.x.facts move.step.shows))
    where
      other : (f : Event) → is_event_of m.station f ≡ true → first.IsClaim settings c m.x.facts f → AreOther m.x.facts
      other (events.Start name sci priority) own are = are
      other (events.Tick station next) own are = are
      other (events.Deliver frame station) own are = are
      other (events.Restart station) own are = are
      other (events.Claim station user pn) own are = absurd (cc own)
      other events.Emit own are = are
      other (events.Inject station octets) own are = are

  -- the station's next event replaces the key that transmits
  replaces : (s : ℕ) (zs : List Mark) (c : Run) (k : ℕ) (ms : List Move) → filter is_control zs ≡ numbered k ms
      → AreMoves settings users ans c ms → Exists s c → stations c ≡ stations r → replaced s zs
      → (key : Key) → transmitting_at settings s c ≡ Some key → is_excuse s (Some key) (ahead_of zs s) ≡ true
  unfolding replaced
  replaces s [] c k ms left moves there same after key is = absurd after
  replaces s (Claim x ∷ zs) c k ms left moves there same after key is =
      replaces s zs c k ms left moves there same after key is
  replaces s (Control n m ∷ zs) c k ms left moves there same after key is =
      let next = head-move n k m zs ms left in
      let all = subst (AreMoves settings users ans c) next.1 moves in
      elim after [
        | inl here ↦ (let own = own-of s m.station m.x.event all.0.own ∙ eq-eqb m.station s here.0 in
            let gap = all.0.gap here.1 key (subst (λ v. transmitting_at settings v c ≡ Some key) (sym here.0) is) in
            ap (is_excuse s (Some key)) (cond-true (is_event_of s m.x.event) (Some m.x) (ahead_of zs s) own)
            ∙ subst (λ v. is_replaced v key m.x.facts ≡ true) here.0 gap)
        | inr later ↦ (let not = own-of s m.station m.x.event all.0.own ∙ ne_eqb m.station s later.0 in
            let still = others-change-none settings s m.x c there not in
            ap (is_excuse s (Some key)) (cond-false (is_event_of s m.x.event) (Some m.x) (ahead_of zs s) not)
            ∙ replaces s zs (m.x ∷ c) (suc k) next.0 next.2 all.2
            (subst (λ ps. s < length ps) (sym (kept c m all.0)) there) (kept c m all.0 ∙ same) later.1 key
            (rw still is))
      ]
    where
      kept : (c : Run) (m : Move) → IsMove settings users c m → stations (m.x ∷ c) ≡ stations c
      kept c m move = (agrees-control settings users base ans c [] c c 0 m (agrees-nil settings c) move).places

  -- a claim is excused
  claim-excused : (past zs : List Mark) (q c : Run) (x : Attempt) (k : ℕ) (ms : List Move)
      → filter is_control zs ≡ numbered k ms → AreMoves settings users ans c ms → ShowsCore settings ans c
      → Agrees settings r past q c → IsGood x → InOrder (before_of settings pointed r) past (Claim x) zs
      → is_excused_by settings q (ahead_of zs) (claim_after settings base x q).facts ≡ true
  claim-excused past zs q c x k ms left moves shows a good order = go x.refused refl
    where
      got : (key : Key) → transmitting_at settings x.station q ≡ Some key → x.refused ≡ false
          → is_excused_by settings q (ahead_of zs) (claim_after settings base x q).facts ≡ true
      got key is taken =
          let told = number-told settings x.station x.number q (transmitting_at settings x.station q) key (good.0.taken taken).0 is in
          ap (λ fact. is_excused_by settings q (ahead_of zs) (fact ∷ [])) told

      why : (o : Option Key) → transmitting_at settings x.station q ≡ o → (now_in x.station (epoch_at settings x.station r) past ≡ 0) ⊎ replaced x.station zs
          → is_excused_by settings q (ahead_of zs) (facts.Unclaimed x.station (lack settings x.station q o) ∷ []) ≡ true
      why None is excuse = rw is refl
      why (Some key) is excuse = under (nat_lt last_number (next settings x.station key.epoch q))
        where
          there : Exists x.station c
          there = subst (λ ps. x.station < length ps) (sym a.places) good.0.there

          same : transmitting_at settings x.station c ≡ Some key
          same = sym (transmits-same settings q c a.seen x.station) ∙ is

          comes : replaced x.station zs
          comes = elim excuse [
            | inl none ↦ absurd (let some = (shows x.station key same).0 in
                let stands = sym (a.stands x.station good.0.there) ∙ none in
                let here = ap epoch_of is in omega (arith, some, stands, here))
            | inr after ↦ after
          ]

          under : (b : Bool) → is_excused_by settings q (ahead_of zs) (facts.Unclaimed x.station (cond b (Exhausted key.epoch) NoKey) ∷ []) ≡ true
          under true = refl
          under false = rw is (replaces x.station zs c k ms left moves there a.places comes key same)

      go : (b : Bool) → x.refused ≡ b → is_excused_by settings q (ahead_of zs) (claim_after settings base x q).facts ≡ true
      go false taken =
          let key = claim-key settings users base ans r pointed past zs q c x a good.0 order taken (good.1 taken) in
          got key.0 key.1 taken
      go true refused =
          let told = none-told settings x.station x.number q (transmitting_at settings x.station q) (good.0.none refused) in
          ap (λ fact. is_excused_by settings q (ahead_of zs) (fact ∷ [])) told
          ∙ why (transmitting_at settings x.station q) refl (order.1 refused)

  -- ---- the law, mark by mark
  pub woven-legal : (zs past : List Mark) (q c : Run) (k : ℕ) (ms : List Move)
      → filter is_control zs ≡ numbered k ms → AreMoves settings users ans c ms → ShowsCore settings ans c
      → Agrees settings r past q c → IsSetting settings → IsWithin q → IsStepped settings users q
      → IsExcusedBefore settings (ahead_of zs) q → AllByRecursion (EachClaim IsGood) zs
      → AreInOrder (before_of settings pointed r) past zs → IsLegal settings users (woven settings base zs q)
  woven-legal [] past q c k ms left moves shows a setting within stepped excused good order =
      record { stepped = stepped; excused = excused }
  woven-legal (Claim x ∷ zs) past q c k ms left moves shows a setting within stepped excused good order =
      let step = claim-step settings users base ans r pointed past zs q c x a setting within stepped good.0.0 good.0.1 order.0 in
      woven-legal zs (Claim x ∷ past) (claim_after settings base x q ∷ q) c k ms left moves shows
      (agrees-claim settings users base ans r pointed past zs q c x a good.0.0 good.0.1 order.0) setting step.within (step, stepped)
      (claim-excused past zs q c x k ms left moves shows a good.0 order.0, excused) good.1 order.1
  woven-legal (Control n m ∷ zs) past q c k ms left moves shows a setting within stepped excused good order =
      let next = head-move n k m zs ms left in
      let all = subst (AreMoves settings users ans c) next.1 moves in
      let step = control-step settings users base ans r pointed past zs q c n m a all.0 order.0 in
      woven-legal zs (Control n m ∷ past) (m.x ∷ q) (m.x ∷ c) (suc k) next.0 next.2 all.2 all.1
      (agrees-control settings users base ans r past q c n m a all.0) setting step.within (step, stepped)
      (control-excused c q m (ahead_of zs) all.0, excused) good.1 order.1
