-- What an event leaves.
use Rattle.std.proofs.Common.{◌≡◌, ℕ, ◌+◌, true, false, List, ◌∷◌, ◌++◌, map}
use Rattle.std.proofs.Common.{Option, Some, None, inl, inr, refl, sym, ap, ◌∙◌, subst, arith}
use Rattle.std.specs.Prelude.{Result, Ok, Err, is_some, option_map}
use Rattle.std.specs.Option.{is_none}
use Rattle.std.specs.Result.{IsErrAnd}
use Rattle.lan_base.specs.declared.frame.UserFrame.{UserFrame}
use Rattle.lan_core.specs.Ledgers.{air}
use Rattle.lan_core.specs.declared.stop.Stop.{Stop}
use Rattle.lan_core.specs.declared.stop.StepError.TheVariants.{Memory, Stopped}
use Rattle.lan_core.specs.Unstopped.{AreDraws}
use Rattle.lan_core.proofs.Public.{mapped}
use Rattle.cak_roll.specs.declared.event.GroupNumber.TheVariants.{First, Second}
use Rattle.cak_roll.specs.declared.event.TwinEvent.{TwinEvent}
use Rattle.cak_roll.specs.declared.event.TwinEvent.TheVariants as twins
use Rattle.cak_roll.specs.declared.told.Told.{Told}
use Rattle.cak_roll.specs.Twin.{Pair, Twin, TwinHappening, run_of, IsTwinStep}
use Rattle.cak_roll.specs.Stepping.{Supply, happening, twin_stop, twin_draws}
use Rattle.cak_roll.specs.Standing.{StandsFor as TwinStandsFor}
use Rattle.cak_roll.specs.Answers.{is_early, IsGiven, IsWhyTwin, MayHappen, GoesOnWith, told_in}
use Rattle.cak_roll.specs.declared.fault.TwinError.{TwinError}
use Rattle.cak_roll.specs.declared.fault.TwinError.TheVariants.{Failed, NoSecond}
use Rattle.cak_roll.proofs.Public.{lone-then}
use Rattle.trace_acts.specs.declared.halt.Halt.{Halt}
use Rattle.trace_acts.specs.declared.halt.Halt.TheVariants as halts
use Rattle.trace_acts.specs.declared.halt.Kind.TheVariants.{Order}
use Rattle.lan_base.specs.declared.sink.Unwritten.{Unwritten}
use Rattle.trace_acts.specs.Halts.{halt_of_unwritten, halt_of}
use Rattle.trace_acts.specs.Settings.{rule_of}
use Rattle.trace_acts.specs.Supply.{draw_at, supply_nth}
use Rattle.twin_schedule.specs.declared.stage.Stage.{Stage}
use Rattle.twin_schedule.specs.World.{World, pair_of, names_in, senders_of}
use Rattle.twin_schedule.specs.Acts.{happen, perform, Course, Goes, Stops, supply, answered}
use Rattle.twin_schedule.specs.Acts.{world_after}
use Rattle.twin_schedule.specs.Sound.{IsTidy}
use Rattle.twin_schedule.specs.Reports.{Report, report_of, last_reports, reports}
use Rattle.twin_schedule.specs.Ends.{Moment, IsReached, Ends}
use Rattle.twin_schedule.specs.Stages.{StandsFor}
use Rattle.twin_schedule.specs.inside.Comes.{Comes, IsReady}
use Rattle.twin_schedule.specs.inside.Doing.{halt_by, Did, Happened}
use Rattle.twin_schedule.specs.inside.Telling.{started_name, started_sci, adopted_name, sent_in}
use Rattle.twin_schedule.specs.inside.Telling.{report_with, AreTelling}
use Rattle.trace_acts.proofs.Public.{begins-self, handed-on, taken-draws}
use Rattle.twin_schedule.proofs.Doing.{told-none, ends-memory}
use Rattle.twin_schedule.proofs.Told.{happening-event, names-first, names-second, scis-first}
use Rattle.twin_schedule.proofs.Told.{senders-then, reports-are}

-- ---- draws

pub supply-draws : (w : World) → IsTidy w → AreDraws (supply w)
supply-draws w tidy = taken-draws (rule_of w.kept.chosen) w.kept.taken tidy.draws

pub same-supply : (w : World) (stage : Stage) → StandsFor w stage
    → supply_nth stage.draws ≡ supply w
same-supply w stage stands = λ i k. stands.draws k i

-- ---- a step

-- what a step promises of the groups that go on
pub record StepGoes (given : Option UserFrame) (event : TwinEvent) (old new : Stage)
    (told : List Told) : Type 0 where
  pub goes : (pair : Pair) (users : List UserFrame) (t : Twin) → TwinStandsFor pair users old.twin t
      → MayHappen users t given event (supply_nth old.draws)
      → (x : TwinHappening)
      × GoesOnWith pair users t event (supply_nth old.draws) (supply_nth new.draws) new.twin told x

-- what its clauses say
pub step-goes : (given : Option UserFrame) (event : TwinEvent) (old new : Stage) (told : List Told)
    → ((pair : Pair) (users : List UserFrame) (t : Twin) → TwinStandsFor pair users old.twin t
    → MayHappen users t given event (supply_nth old.draws)
    → option_map told_in (happening pair users t event (supply_nth old.draws)) ≡ Some told)
    → ((pair : Pair) (users : List UserFrame) (t : Twin) (x : TwinHappening)
    → TwinStandsFor pair users old.twin t → MayHappen users t given event (supply_nth old.draws)
    → happening pair users t event (supply_nth old.draws) ≡ Some x
    → TwinStandsFor pair users new.twin (x ∷ t))
    → ((pair : Pair) (users : List UserFrame) (t : Twin) → TwinStandsFor pair users old.twin t
    → MayHappen users t given event (supply_nth old.draws)
    → (k : ℕ) → supply_nth new.draws k ≡ supply_nth old.draws (k + twin_draws pair t event))
    → ((pair : Pair) (users : List UserFrame) (t : Twin) → TwinStandsFor pair users old.twin t
    → MayHappen users t given event (supply_nth old.draws)
    → twin_stop pair users t event (supply_nth old.draws) ≡ None)
    → StepGoes given event old new told
step-goes given event old new told shows stands drawn goes = record {
  goes = λ pair users t at may.
      let m = mapped told_in (happening pair users t event (supply_nth old.draws)) told
      (shows pair users t at may) in (
        m.0,
        record {
          goes = goes pair users t at may;
          shows = m.1;
          tells = sym m.2;
          stands = stands pair users t m.0 at may m.1;
          drawn = drawn pair users t at may;
        },
      );
}

-- what is kept beside the step
pub record Keeps (event : TwinEvent) (told : List Told) (old new : Stage) : Type 0 where
  pub line : new.line ≡ old.line
  pub chosen : new.chosen ≡ old.chosen
  pub keyed : new.keyed ≡ old.keyed
  pub there : is_some new.twin.second ≡ is_some old.twin.second
  pub users : new.users ≡ old.users
  pub cuts : new.cuts ≡ old.cuts
  pub scis : new.scis.items ≡ old.scis.items ++ started_sci event
  pub first_names : new.first.names.items ≡ old.first.names.items ++ started_name event
  pub second_names : new.second.names.items
      ≡ old.second.names.items ++ adopted_name old.first.names.items event
  pub first_senders : new.first.senders.items ≡ old.first.senders.items ++ sent_in First told
  pub second_senders : new.second.senders.items ≡ old.second.senders.items ++ sent_in Second told
  pub first_spread : new.first.spread ≡ old.first.spread
  pub second_spread : new.second.spread ≡ old.second.spread

-- an event that goes on in a world
pub record GoesIn (w : World) (event : TwinEvent) (old new : Stage) (told : List Told)
    (x : TwinHappening) : Type 0 where
  pub out : perform (happen event) w ≡ Goes (world_after w event x)
  pub event_is : x.event ≡ event
  pub step : IsTwinStep (pair_of w) w.kept.users x w.run
  pub tells : told ≡ told_in x
  pub twin : TwinStandsFor (pair_of w) w.kept.users new.twin (x ∷ w.run)
  pub draws : (k : ℕ) → supply_nth new.draws k ≡ supply (world_after w event x) k

out-is : (w : World) (event : TwinEvent) (x : TwinHappening) (nth : Supply) → nth ≡ supply w
    → twin_stop (pair_of w) w.kept.users w.run event nth ≡ None
    → happening (pair_of w) w.kept.users w.run event nth ≡ Some x
    → perform (happen event) w ≡ Goes (world_after w event x)
out-is w event x nth same goes shows =
    let none : twin_stop (pair_of w) w.kept.users w.run event (supply w) ≡ None =
    subst (λ (nth : Supply). twin_stop (pair_of w) w.kept.users w.run event nth ≡ None) same goes in
    let some : happening (pair_of w) w.kept.users w.run event (supply w) ≡ Some x =
    subst (λ (nth : Supply). happening (pair_of w) w.kept.users w.run event nth ≡ Some x) same
    shows in
    ap (λ (o : Option Stop). answered w event o
    (happening (pair_of w) w.kept.users w.run event (supply w))) none
    ∙ ap (λ (o : Option TwinHappening). answered w event None o) some

goes-in : (w : World) (event : TwinEvent) (old new : Stage) (told : List Told) (x : TwinHappening)
    → StandsFor w old
    → GoesOnWith (pair_of w) w.kept.users w.run event (supply_nth old.draws)
    (supply_nth new.draws) new.twin told x → GoesIn w event old new told x
goes-in w event old new told x stands goes = record {
  out = out-is w event x (supply_nth old.draws) (same-supply w old stands) goes.goes goes.shows;
  event_is = happening-event (pair_of w) w.kept.users w.run event (supply_nth old.draws) x goes.shows;
  step = goes.stands.legal.0;
  tells = goes.tells;
  twin = goes.stands;
  draws = λ k.
      goes.drawn k ∙ stands.draws (k + twin_draws (pair_of w) w.run event)
      ∙ ap (λ (n : ℕ). draw_at (rule_of w.kept.chosen) n)
      (let e : w.kept.taken + (k + twin_draws (pair_of w) w.run event)
      ≡ w.kept.taken + twin_draws (pair_of w) w.run event + k = omega arith in e);
}

-- ---- the world after it

stands-after : (w : World) (event : TwinEvent) (old new : Stage) (told : List Told)
    (x : TwinHappening) → StandsFor w old → GoesIn w event old new told x
    → Keeps event told old new → StandsFor (world_after w event x) new
stands-after w event old new told x stands goes keeps = record {
  begun = stands.begun;
  named = stands.named;
  chosen = keeps.chosen ∙ stands.chosen;
  keyed = keeps.keyed ∙ stands.keyed;
  line = keeps.line ∙ stands.line;
  twin = goes.twin;
  there = keeps.there ∙ stands.there;
  draws = goes.draws;
  scis = keeps.scis ∙ ap (λ l. l ++ started_sci event) stands.scis
      ∙ sym (scis-first (pair_of w) w.kept.users x w.run event goes.step goes.event_is);
  users = keeps.users ∙ stands.users;
  cuts = keeps.cuts ∙ stands.cuts;
  first_party = record {
    names = keeps.first_names ∙ ap (λ l. l ++ started_name event) stands.first_party.names
        ∙ sym (names-first (pair_of w) w.kept.users x w.run event goes.step goes.event_is);
    senders = keeps.first_senders
        ∙ ap (λ l. l ++ sent_in First told) stands.first_party.senders
        ∙ ap (λ l. senders_of (air (run_of First w.run)) ++ sent_in First l) goes.tells
        ∙ sym (senders-then First x w.run);
    spread = keeps.first_spread ∙ stands.first_party.spread;
  };
  second_party = record {
    names = keeps.second_names
        ∙ ap (λ l. l ++ adopted_name old.first.names.items event) stands.second_party.names
        ∙ ap (λ ns. names_in Second w.run ++ adopted_name ns event) stands.first_party.names
        ∙ sym (names-second (pair_of w) w.kept.users x w.run event goes.step goes.event_is);
    senders = keeps.second_senders
        ∙ ap (λ l. l ++ sent_in Second told) stands.second_party.senders
        ∙ ap (λ l. senders_of (air (run_of Second w.run)) ++ sent_in Second l) goes.tells
        ∙ sym (senders-then Second x w.run);
    spread = keeps.second_spread ∙ stands.second_party.spread;
  };
}

-- there is a second group where it came
not-both : {A : Type 0} (o : Option A) → is_none o ≡ true → is_some o ≡ true → ⊥
not-both None none some = cc some
not-both (Some a) none some = cc none

-- an event that can be performed doesn't come too early
pub never-early : (event : TwinEvent) (w : World) (stage : Stage) → StandsFor w stage
    → Comes (happen event) w → is_early stage.twin event ≡ true → ⊥
never-early (twins.Adopt station) w stage stands comes early =
    not-both stage.twin.second early (stands.there ∙ comes.1)
never-early _ w stage stands comes early = cc early

-- an adoption comes behind a second group
no-adoption : (w : World) (event : TwinEvent) → IsReady w event → w.kept.second ≡ None
    → (station : ℕ) → event ≡ twins.Adopt station → ⊥
no-adoption w event ready none station is =
    let some : is_some w.kept.second ≡ true = subst (λ (e : TwinEvent). IsReady w e) is ready in
    let bad : false ≡ true = sym (ap (λ o. is_some o) none) ∙ some in cc bad

pub tidy-after : (w : World) (event : TwinEvent) (x : TwinHappening) (new : Stage) → IsTidy w
    → IsReady w event → w.kept.begun ≡ true → x.event ≡ event
    → IsTwinStep (pair_of w) w.kept.users x w.run
    → TwinStandsFor (pair_of w) w.kept.users new.twin (x ∷ w.run) → IsTidy (world_after w event x)
tidy-after w event x new tidy ready begun is step twin = record {
  legal = twin.legal;
  fresh = twin.fresh;
  waits = λ e. absurd (let bad : true ≡ false = sym begun ∙ e in cc bad);
  lone = λ none. lone-then (pair_of w) w.kept.users x w.run step (tidy.lone none)
      (λ station adopts. no-adoption w event ready none station (sym is ∙ adopts));
  draws = tidy.draws;
}

-- ---- what was told of it

-- what an event answers by what its recorder answered
abbrev pub handed : Result (Unit {0}) Unwritten → Result (Unit {0}) Halt
handed (Ok done) = Ok tt
handed (Err why) = Err (halt_of_unwritten why)

module _ {K : Type 0} (Took : K → Report → K → Type 0) (Broke : K → Report → K → Unwritten → Type 0)
  where
    told-ends : (w : World) (event : TwinEvent) (x : TwinHappening) (a : K) (new : Moment Stage K)
        (why : Result (Unit {0}) Unwritten) → IsTidy (world_after w event x)
        → StandsFor (world_after w event x) new.value
        → AreTelling Took Broke (last_reports (x ∷ w.run)) a new.outlet why
        → Ends StandsFor Took Broke w (Goes (world_after w event x)) a new (handed why)
    told-ends w event x a new (Ok done) tidy stands told = (
      world_after w event x,
      refl,
      record { stands = stands; tidy = tidy },
      record { told = last_reports (x ∷ w.run); since = refl; by_one = told },
    )
    told-ends w event x a new (Err why) tidy stands upto = inr (record {
      world = world_after w event x;
      tidy = tidy;
      begins = begins-self (reports (x ∷ w.run));
      cause = inr (record {
        told = upto.told;
        last = upto.last;
        behind = upto.behind;
        since = ap (λ (l : List Report). reports w.run ++ l) upto.parts;
        front = upto.told;
        prompt = upto.parts;
        before = upto.before;
        by_one = upto.by_one;
        why = why;
        breaks = upto.breaks;
        is = refl;
      });
    })

may-happen : (given : Option UserFrame) (event : TwinEvent) (w : World) (stage : Stage)
    → IsReached StandsFor w stage → IsGiven w.kept.users given event → Comes (happen event) w
    → MayHappen w.kept.users w.run given event (supply_nth stage.draws)
may-happen given event w stage reached is comes = record {
  may_come = comes.0;
  gives = is;
  draws = subst (λ (nth : Supply). AreDraws nth) (sym (same-supply w stage reached.stands))
      (supply-draws w reached.tidy);
}

module _ {K : Type 0} {Took : K → Report → K → Type 0} {Broke : K → Report → K → Unwritten → Type 0}
  where
    -- the event of a step happened, and what it shows was told, or the recorder broke at it
    pub event-did : (given : Option UserFrame) (event : TwinEvent) (told : List Told)
        (old new : Moment Stage K) (why : Result (Unit {0}) Unwritten)
        → StepGoes given event old.value new.value told → Keeps event told old.value new.value
        → AreTelling Took Broke
        (map (report_with new.value.first.names.items new.value.second.names.items) told) old.outlet
        new.outlet why
        → Happened Took Broke given event old new (handed why)
    event-did given event told old new why step keeps wrote = record {
      ends = λ w reached is comes.
          let went = step.goes (pair_of w) w.kept.users w.run reached.stands.twin
          (may-happen given event w old.value reached is comes) in
          let x = went.0 in
          let goes = goes-in w event old.value new.value told x reached.stands went.1 in
          let stands = stands-after w event old.value new.value told x reached.stands goes keeps in
          let tidy = tidy-after w event x new.value reached.tidy comes.1 reached.stands.begun
          goes.event_is goes.step goes.twin in
          let same : map (report_with new.value.first.names.items new.value.second.names.items) told
          ≡ last_reports (x ∷ w.run) =
          reports-are new.value.first.names.items new.value.second.names.items (x ∷ w.run) told
          stands.first_party.names stands.second_party.names
          ∙ ap (λ l. map (report_of (x ∷ w.run)) l) goes.tells in
          subst (λ (out : Course). Ends StandsFor Took Broke w out old.outlet new (handed why))
          (sym goes.out)
          (told-ends Took Broke w event x old.outlet new why tidy stands
          (subst (λ (l : List Report). AreTelling Took Broke l old.outlet new.outlet why) same
          wrote));
    }

    -- the groups met a stop
    pub event-stopped : (given : Option UserFrame) (event : TwinEvent) (stop : Stop) (line : ℕ)
        (old new : Moment Stage K)
        → ((pair : Pair) (users : List UserFrame) (t : Twin)
        → TwinStandsFor pair users old.value.twin t
        → MayHappen users t given event (supply_nth old.value.draws)
        → twin_stop pair users t event (supply_nth old.value.draws) ≡ Some stop)
        → line ≡ old.value.line → new.outlet ≡ old.outlet
        → Happened Took Broke given event old new (Err (halt_of line stop))
    event-stopped given event stop line old new first is_line same = record {
      ends = λ w reached is comes.
          let met : twin_stop (pair_of w) w.kept.users w.run event (supply w) ≡ Some stop =
          subst (λ (nth : Supply). twin_stop (pair_of w) w.kept.users w.run event nth ≡ Some stop)
          (same-supply w old.value reached.stands)
          (first (pair_of w) w.kept.users w.run reached.stands.twin
          (may-happen given event w old.value reached is comes)) in
          inl (record {
            world = w;
            stops = ap (λ (o : Option Stop). answered w event o
                (happening (pair_of w) w.kept.users w.run event (supply w))) met
                ∙ ap (λ (n : ℕ). Stops w (halt_of n stop)) (sym (is_line ∙ reached.stands.line));
            tidy = reached.tidy;
            told = told-none w w old.outlet new.outlet refl same;
          });
    }

    -- what can't be performed in any world is done by nothing
    pub event-never : (given : Option UserFrame) (event : TwinEvent) (old new : Moment Stage K)
        (r : Result (Unit {0}) Halt)
        → ((w : World) → StandsFor w old.value → Comes (happen event) w → ⊥)
        → Happened Took Broke given event old new r
    event-never given event old new r never = record {
      ends = λ w reached is comes. absurd (never w reached.stands comes);
    }

    -- memory was wanting, and nothing was told
    pub event-wanting : (given : Option UserFrame) (event : TwinEvent) (old new : Moment Stage K)
        → new.outlet ≡ old.outlet → Happened Took Broke given event old new (Err halts.Memory)
    event-wanting given event old new same = record {
      ends = λ w reached is comes.
          ends-memory StandsFor Took Broke (happen event) w old.outlet new reached.tidy same;
    }

    -- the groups went no further
    pub event-failed : (given : Option UserFrame) (event : TwinEvent) (error : TwinError) (line : ℕ)
        (old new : Moment Stage K)
        → ((pair : Pair) (users : List UserFrame) (t : Twin)
        → TwinStandsFor pair users old.value.twin t
        → MayHappen users t given event (supply_nth old.value.draws)
        → IsWhyTwin (twin_stop pair users t event (supply_nth old.value.draws)) error)
        → (old.value.twin.stopped ≡ None → error ≡ NoSecond → is_early old.value.twin event ≡ true)
        → line ≡ old.value.line → new.outlet ≡ old.outlet
        → Happened Took Broke given event old new (Err (halt_by line error))
    event-failed given event (Failed (Stopped stop)) line old new why early is_line same =
        event-stopped given event stop line old new why is_line same
    event-failed given event (Failed Memory) line old new why early is_line same =
        event-wanting given event old new same
    event-failed given event NoSecond line old new why early is_line same =
        event-never given event old new (Err (halts.Trace line Order)) (λ w stands comes.
        never-early event w old.value stands comes (early stands.twin.goes refl))

    -- an error that `?` hands on is the error
    pub happened-err : (given : Option UserFrame) (event : TwinEvent) (old new : Moment Stage K)
        (e : Halt) (r : Result (Unit {0}) Halt) → Happened Took Broke given event old new (Err e)
        → IsErrAnd r (λ y. y ≡ e) → Happened Took Broke given event old new r
    happened-err given event old new e r d is =
        handed-on (Happened Took Broke given) event old new e r d is

    -- an event that names no user frame
    pub plainly : (event : TwinEvent) (old new : Moment Stage K) (r : Result (Unit {0}) Halt)
        → ((users : List UserFrame) → IsGiven users None event)
        → Happened Took Broke None event old new r → Did Took Broke (happen event) old new r
    plainly event old new r none h = record {
      ends = λ w reached comes. h.ends w reached (none w.kept.users) comes;
    }
