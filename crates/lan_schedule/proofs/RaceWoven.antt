-- The world behind a race is tidy, and the group at work stands for it once the claims' frames wait.
use Rattle.std.proofs.Common.{◌≡◌, ◌≤◌, ℕ, ◌+◌, Bool, true, false, List, ◌++◌, length, map, filter}
use Rattle.std.proofs.Common.{sym, ap, ◌∙◌, subst, arith}
use Rattle.std.specs.Prelude.{None, is_some}
use Rattle.std.specs.List.{AllByRecursion}
use Rattle.std.proofs.lemmas.List.Elements.{All-push, recursion_from_All}
use Rattle.lan_base.specs.declared.frame.Protected.{Protected}
use Rattle.lan_base.specs.declared.frame.UserFrame.{UserFrame}
use Rattle.association_slots.specs.Views.{ControlAt}
use Rattle.lan_core.specs.declared.event.Event.{Event}
use Rattle.lan_core.specs.declared.fact.Fact.{Fact}
use Rattle.lan_core.specs.declared.settings.Settings.{Settings}
use Rattle.lan_core.specs.Claims.{claimed}
use Rattle.lan_core.specs.Fresh.{IsFresh, IsUnforged}
use Rattle.lan_core.specs.Ledgers.{AreNumbered, Frame, emitted}
use Rattle.lan_core.specs.Legal.{IsLegal, IsThrifty}
use Rattle.lan_core.specs.Parts.{AreAlike, claimed_in, followed_by, without_claims}
use Rattle.lan_core.specs.Run.{Happening, Run, facts_of}
use Rattle.lan_core.specs.Standing.{StandsFor as GroupStandsFor}
use Rattle.lan_core.proofs.Public.{alike-itself, alike-part, within-same}
use Rattle.fact_tally.specs.Summary.{counts}
use Rattle.worker_races.specs.merge.Merged.{nth_log}
use Rattle.worker_races.specs.merge.Places.{Attempt}
use Rattle.worker_races.specs.merge.Taking.{frames_of}
use Rattle.station_words.specs.Ties.{HaveCaughtUp}
use Rattle.worker_races.specs.Beside.{Race, attempts_in}
use Rattle.worker_races.specs.Carded.{AreCarded}
use Rattle.worker_races.specs.Performed.{happenings}
use Rattle.worker_races.specs.Senders.{IsNew}
use Rattle.trace_acts.specs.Supply.{supply_nth}
use Rattle.trace_acts.specs.Names.{names_of}
use Rattle.lan_schedule.specs.declared.race.Ran.{Ran}
use Rattle.lan_schedule.specs.declared.stage.Stage.{Stage}
use Rattle.lan_schedule.specs.Races.{Chance, Claimed, IsDealt, Numbered, Worker}
use Rattle.lan_schedule.specs.Races.{claims_in, count_numbered, woven_in}
use Rattle.lan_schedule.specs.World.{World, settings}
use Rattle.lan_schedule.specs.Acts.{after_race, begun_race, station_of}
use Rattle.lan_schedule.specs.Reports.{reports}
use Rattle.lan_schedule.specs.Sound.{IsTidy, numbers_of}
use Rattle.lan_schedule.specs.Stages.{Says, StandsFor}
use Rattle.lan_schedule.specs.Woven.{worker_of}
use Rattle.lan_schedule.specs.inside.Beside.{HasRun}
use Rattle.lan_schedule.specs.inside.Comes.{IsSteady}
use Rattle.lan_schedule.specs.inside.Weaves.{facts_in, reports_with, shown_in}
use Rattle.lan_schedule.proofs.Dealt.{is-dealt, of-stations}
use Rattle.lan_schedule.proofs.PartClaims.{claims-wait}
use Rattle.lan_schedule.proofs.PartReports.{StartsNone, facts_by, names-stay, performed-start-none}
use Rattle.lan_schedule.proofs.PartReports.{reports-part, told-facts, woven-start-none}
use Rattle.lan_schedule.proofs.PartTidy.{claimed-more, claimed-still, fresh-part, unforged-part}
use Rattle.lan_schedule.proofs.RaceOf.{on-run, race, same-settings, were-beside}
use Rattle.lan_schedule.proofs.RacePart.{IsPart, claims-same, claims_from, facts-part, shown-part, unspent-part}
use Rattle.lan_schedule.proofs.Steered.{IsSteered}
use Rattle.lan_schedule.proofs.WovenPart.{after-woven, claims_of}

module _ (w : World) (workers : List Worker) (lines : List Numbered) (now : Stage) (ran : Ran)
    (has : HasRun w workers lines now ran) (later : List Chance) (stopped : Bool) (v : World)
    (at : IsSteered w has.begun has.beside.moved ran.steps.items ran.kept later stopped v)
    (steady : IsSteady (begun_race workers w) v) (es : List Event) (part : List Happening)
    (is : IsPart (race w workers lines now ran has later stopped v at steady) es part)
    (chances : woven_in v.kept.chances ≡ claims_from es) where
  abbrev r : Race
  r = race w workers lines now ran has later stopped v at steady

  abbrev pub u : World
  u = after_race workers w v

  abbrev whole : Run
  whole = followed_by part w.run

  -- the world after the race, with its run told by the part
  abbrev by_part : World
  by_part = record { run = whole; kept = u.kept }

  on : v.run ≡ followed_by (happenings r.performed) w.run
  on = on-run w workers lines now ran has later stopped v at steady

  same : settings v ≡ settings w
  same = same-settings w workers lines now ran has later stopped v at steady

  beside-all : AllByRecursion IsNew has.crew
  beside-all = recursion_from_All IsNew has.crew has.hired.fresh

  claims-are : woven_in v.kept.chances ≡ claims_of r.base part
  claims-are = chances ∙ sym (claims-same r.base part es is.events)

  stations-are : (k : ℕ) → AllByRecursion (λ (a : Attempt). a.station ≡ station_of workers k)
      (nth_log k (attempts_in r))
  stations-are k = subst (λ (ws : List Worker).
      AllByRecursion (λ (a : Attempt). a.station ≡ station_of ws k) (nth_log k (attempts_in r)))
      has.hired.are (of-stations 0 k has.crew has.beside.ended has.beside.done beside-all)

  pub after-run : u.run ≡ whole
  after-run = after-woven r.users workers w v part (happenings r.performed) (attempts_in r) on
      claims-are stations-are is.woven is.legal.stepped

  -- ---- what was shown

  start-none : AllByRecursion StartsNone (happenings r.performed)
  start-none = performed-start-none (settings w) r.users w.run r.performed r.steps
      (were-beside w workers lines now ran has later stopped v at steady).performed

  part-start-none : AllByRecursion StartsNone part
  part-start-none = woven-start-none part (happenings r.performed) is.woven.control start-none

  pub names-on : names_of v.run ≡ names_of w.run
  names-on = ap (λ (q : Run). names_of q) on ∙ names-stay (happenings r.performed) w.run start-none

  pub names-after : names_of u.run ≡ names_of w.run
  names-after = ap (λ (q : Run). names_of q) after-run ∙ names-stay part w.run part-start-none

  pub reports-after : reports u.run ≡ reports w.run ++ reports_with (names_of w.run) (facts_by part)
  reports-after = ap (λ (q : Run). reports q) after-run ∙ reports-part part w.run part-start-none

  pub kept-part : ran.kept ≡ facts_by (happenings r.performed)
  kept-part = at.shows ∙ told-facts (happenings r.performed) w.run at.told start-none
      (ap (λ (q : Run). reports q) (sym on) ∙ at.since)

  pub shown-after : (frames : List Protected) → frames ≡ frames_of es ran.logs.items
      → shown_in es ran.kept frames ≡ facts_by part
  shown-after frames taken =
      ap (λ (kept : List (List Fact)). shown_in es kept frames) kept-part
      ∙ ap (λ (fs : List Protected). shown_in es (facts_by (happenings r.performed)) fs)
      (taken ∙ ap (λ logs. frames_of es logs) has.beside.logs)
      ∙ shown-part r (were-beside w workers lines now ran has later stopped v at steady) es part is

  pub facts-after : (shown : List (List Fact)) → shown ≡ facts_by part
      → facts_in (facts_of w.run) shown ≡ facts_of u.run
  facts-after shown are = ap (λ (s : List (List Fact)). facts_in (facts_of w.run) s) are
      ∙ facts-part part w.run ∙ ap (λ (q : Run). facts_of q) (sym after-run)

  -- ---- a tidy world

  without : followed_by (without_claims part) w.run ≡ v.run
  without = ap (λ (hs : List Happening). followed_by hs w.run) is.woven.control ∙ sym on

  alike : AreAlike (settings w) whole v.run
  alike = subst (AreAlike (settings w) whole) without
      (alike-part (settings w) r.users part w.run w.run is.legal.stepped
      (alike-itself (settings w) w.run))

  legal-after : IsLegal (settings v) v.kept.users whole
  legal-after = subst (λ (users : List UserFrame). IsLegal (settings v) users whole)
      (sym steady.users)
      (subst (λ (s : Settings). IsLegal s r.users whole) (sym same) is.legal)

  fresh-after : IsFresh whole
  fresh-after = fresh-part (settings w) r.users part w.run is.legal.stepped
      (subst IsFresh (sym without) at.tidy.sound.fresh)

  unforged-after : IsUnforged (settings v) whole
  unforged-after = subst (λ (s : Settings). IsUnforged s whole) (sym same)
      (unforged-part (settings w) r.users part w.run is.legal.stepped
      (subst (IsUnforged (settings w)) (sym without)
      (subst (λ (s : Settings). IsUnforged s v.run) same at.tidy.sound.unforged)))

  thrifty-after : IsThrifty (settings v) whole
  thrifty-after = subst (λ (s : Settings). IsThrifty s whole) (sym same)
      (is.thrifty (has.reached.tidy.sound.thrifty has.apart))

  -- as many claims waited before, and those of the part wait since
  emitted-same : length (emitted whole) ≡ length (emitted v.run)
  emitted-same =
      ap (λ (frames : List Frame). length (filter (λ (f : Frame). f.sec) frames)) alike.on_air

  claimed-on : length (claimed (settings v) v.run) ≡ length (claimed (settings w) w.run)
  claimed-on = ap (λ (s : Settings). length (claimed s v.run)) same
      ∙ ap (λ (q : Run). length (claimed (settings w) q)) (sym without)
      ∙ ap length (claimed-still (settings w) part w.run)

  claimed-after : length (claimed (settings v) whole)
      ≡ length (claimed (settings w) w.run) + length (claimed_in (settings w) part w.run)
  claimed-after = ap (λ (s : Settings). length (claimed s whole)) same
      ∙ claimed-more (settings w) part w.run

  wait-whole : length (emitted whole) + length (claimed_in (settings w) part w.run)
      ≤ length (claimed (settings v) whole)
  wait-whole = let before = at.tidy.in_turn in
      omega (arith, emitted-same, claimed-on, claimed-after, before)

  pub wait-after : length (emitted u.run) + length (claimed_in (settings w) part w.run)
      ≤ length (claimed (settings u) u.run)
  wait-after = subst (λ (q : Run). length (emitted q) + length (claimed_in (settings w) part w.run)
      ≤ length (claimed (settings v) q)) (sym after-run) wait-whole

  -- so many claims got a number
  pub many-after : length (claimed_in (settings w) part w.run)
      ≡ count_numbered (claims_in (woven_in v.kept.chances))
  many-after = claims-wait (settings w) r.users r.base part w.run is.legal.stepped
      ∙ ap (λ (cs : List (List Claimed)). count_numbered (claims_in cs)) (sym claims-are)

  dealt-after : IsDealt (record {
    workers = workers;
    claims = claims_in (woven_in v.kept.chances);
  })
  dealt-after =
      subst (λ (ws : List Worker). IsDealt (record {
        workers = ws;
        claims = claims_in (woven_in v.kept.chances);
      })) has.hired.are
      (subst (λ (cs : List (List Claimed)). IsDealt (record {
        workers = map worker_of has.crew;
        claims = claims_in cs;
      })) (sym claims-are)
      (is-dealt r.base has.crew has.beside.ended part (happenings r.performed) has.beside.done
      beside-all is.woven))

  tidy-part : IsTidy by_part
  tidy-part = record {
    sound = record {
      legal = legal-after;
      fresh = fresh-after;
      unforged = unforged-after;
      thrifty = λ apart. thrifty-after;
    };
    within = within-same (settings w) whole v.run alike at.tidy.within;
    frames = at.tidy.frames ∙ ap (λ (frames : List Frame). numbers_of frames) (sym alike.on_air);
    numbered = subst AreNumbered (sym alike.on_air) at.tidy.numbered;
    in_turn = (let wait = wait-whole in omega (arith, wait));
    few = λ calm. absurd (let bad : true ≡ false = sym at.raced ∙ calm in cc bad);
    unspent = unspent-part r (were-beside w workers lines now ran has later stopped v at steady) es part is
        has.reached.tidy.unspent;
    waits = λ none. absurd
        (let begun : v.kept.begun ≡ true = steady.begun ∙ has.reached.stands.begun in
        let bad : true ≡ false = sym begun ∙ none in cc bad);
    draws = at.tidy.draws;
    dealt = All-push IsDealt v.kept.races (record {
      workers = workers;
      claims = claims_in (woven_in v.kept.chances);
    }) at.tidy.dealt dealt-after;
  }

  pub tidy-after : IsTidy u
  tidy-after = subst (λ (q : Run). IsTidy (record { run = q; kept = u.kept })) (sym after-run)
      tidy-part

  -- ---- the group at work

  module _ (new : Stage) (stands : StandsFor v has.beside.moved)
      (is_new : new ≡ record has.beside.moved {
        line = w.kept.line;
        tally = new.tally;
        words = now.words;
        steps = None;
        lan = new.lan;
      })
      (lan : GroupStandsFor (settings w) r.users new.lan whole)
      (words : HaveCaughtUp (settings w) whole now.words)
      (cards : AreCarded (settings w) whole now.words)
      (tally : new.tally ≡ counts (facts_of u.run)) where
    lan-part : GroupStandsFor (settings v) v.kept.users new.lan whole
    lan-part = subst (λ (users : List UserFrame). GroupStandsFor (settings v) users new.lan whole)
        (sym steady.users)
        (subst (λ (s : Settings). GroupStandsFor s r.users new.lan whole) (sym same) lan)

    words-part : Says v.kept.raced false (settings v) whole new.words
    words-part = subst (λ (b : Bool). Says b false (settings v) whole new.words) (sym at.raced)
        (subst (λ (cs : List ControlAt). HaveCaughtUp (settings v) whole cs)
        (ap (λ (s : Stage). s.words) (sym is_new))
        (subst (λ (s : Settings). HaveCaughtUp s whole now.words) (sym same) words))

    cards-part : AreCarded (settings v) whole new.words
    cards-part = subst (λ (cs : List ControlAt). AreCarded (settings v) whole cs)
        (ap (λ (s : Stage). s.words) (sym is_new))
        (subst (λ (s : Settings). AreCarded s whole now.words) (sym same) cards)

    stands-part : StandsFor by_part new
    stands-part = record {
      begun = stands.begun;
      raced = ap (λ (s : Stage). s.raced) is_new ∙ stands.raced;
      keyed = stands.keyed;
      line = ap (λ (s : Stage). s.line) is_new;
      lag = ap (λ (s : Stage). s.lag) is_new ∙ stands.lag;
      lan = lan-part;
      draws = λ k. ap (λ (s : Stage). supply_nth s.draws k) is_new ∙ stands.draws k;
      users = ap (λ (s : Stage). s.users) is_new ∙ stands.users;
      flow = ap (λ (s : Stage). s.frames) is_new ∙ stands.flow;
      cuts = ap (λ (s : Stage). s.cuts) is_new ∙ stands.cuts;
      words = words-part;
      cards = cards-part;
      tally = tally ∙ ap (λ (q : Run). counts (facts_of q)) after-run;
      steps = ap (λ (s : Stage). is_some s.steps) is_new;
    }

    pub stands-after : StandsFor u new
    stands-after = subst (λ (q : Run). StandsFor (record { run = q; kept = u.kept }) new)
        (sym after-run) stands-part
