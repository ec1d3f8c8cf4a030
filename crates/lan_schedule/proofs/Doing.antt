-- Acts are done one after the other.
use Rattle.std.proofs.Common.{◌≡◌, List, [], ◌∷◌, ◌++◌}
use Rattle.std.proofs.Common.{inl, inr, refl, sym, ap, ◌∙◌, subst}
use Rattle.std.proofs.Common.{append_assoc, append-nil, arith}
use Rattle.std.specs.Prelude.{◌⊎◌, Result, Ok, Err, Option, Some, None}
use Rattle.std.specs.Result.{IsErrAnd}
use Rattle.lan_base.specs.declared.frame.UserFrame.{UserFrame}
use Rattle.association_slots.specs.Views.{ControlAt}
use Rattle.lan_core.specs.declared.settings.Settings.{Settings}
use Rattle.worker_races.specs.declared.merge.step.Step.{Step}
use Rattle.trace_acts.specs.declared.halt.Halt.{Halt}
use Rattle.trace_acts.specs.declared.halt.Halt.TheVariants as halts
use Rattle.lan_base.specs.declared.sink.Unwritten.{Unwritten}
use Rattle.lan_schedule.specs.declared.stage.Stage.{Stage}
use Rattle.lan_schedule.specs.Races.{Chance}
use Rattle.lan_schedule.specs.World.{World, Kept, is_racing, settings}
use Rattle.lan_schedule.specs.Acts.{Act, nothing, change, seq, look}
use Rattle.lan_schedule.specs.Acts.{perform, BeginsAt, Course, Goes, and_then}
use Rattle.lan_schedule.specs.Reports.{Report, reports}
use Rattle.lan_schedule.specs.Ends.{Moment, moment, WasTold, WasToldTo, WasBroken, Ends, Standing}
use Rattle.lan_schedule.specs.inside.Comes.{Comes}
use Rattle.lan_schedule.specs.Sound.{IsTidy}
use Rattle.lan_schedule.specs.Stages.{StandsFor}
use Rattle.lan_schedule.specs.inside.Recording.{Mark, StandsSince, HasRecorded, IsRecorded, stages_since}
use Rattle.lan_schedule.specs.inside.Recording.{KeepSeats, steps_of}
use Rattle.lan_schedule.specs.inside.Staged.{Did, Changed}
use Rattle.trace_acts.proofs.Public.{told-both, told-then, handed-on as hand-on}
use Rattle.trace_acts.proofs.Public.{IsInTurn, Leads as LeadsBy}
pub use Rattle.trace_acts.proofs.Public.{each-end, each-err, each-step, going, leads-end, leads-err}
pub use Rattle.trace_acts.proofs.Public.{leads-start, leads-step, span-done, span-end, span-exit}
pub use Rattle.trace_acts.proofs.Public.{span-next, span-start, span-step, told-none}
use Rattle.lan_schedule.proofs.OnWay.{IsAs, as-left, begins-start, way-start}
use Rattle.lan_schedule.proofs.Recorded.{seats-kept, seats-then}

-- the chances of two calls, one after the other
pub both-chances : (all a b later : List Chance) → all ≡ (a ++ b) ++ later → all ≡ a ++ (b ++ later)
both-chances all a b later is = is ∙ append_assoc a b later

-- ---- what was told

module _ {K : Type 0} {Took : K → Report → K → Type 0} where
  -- nothing more was told
  pub told-here : (w : World) (act : Act) (a b : K) → IsTidy w → b ≡ a → WasToldTo Took w w (BeginsAt act w) a b
  told-here w act a b tidy same = record {
    world = w;
    tidy = tidy;
    same = refl;
    begins = begins-start act w;
    told = told-none w w a b refl same;
    untold = [];
    since = sym (append-nil (reports w.run));
    few = omega arith;
  }

  told-to-then : (w v u : World) (IsBegin IsStart : World → Type 0) (a b c : K) → WasTold Took w v a b
      → is_racing v.kept.phase ≡ is_racing w.kept.phase
      → ((x : World) → IsBegin x → IsStart x)
      → WasToldTo Took v u IsBegin b c → WasToldTo Took w u IsStart a c
  told-to-then w v u IsBegin IsStart a b c told same there to = record {
    world = to.world;
    tidy = to.tidy;
    same = to.same ∙ same;
    begins = there to.world to.begins;
    told = told-then w v to.world a b c told to.told;
    untold = to.untold;
    since = to.since;
    few = to.few;
  }

module _ {K : Type 0} {Took : K → Report → K → Type 0} {Broke : K → Report → K → Unwritten → Type 0}
  where
    broken-then : (w v u : World) (a b c : K) (halt : Halt) → WasTold Took w v a b
        → WasBroken Took Broke v u b c halt → WasBroken Took Broke w u a c halt
    broken-then w v u a b c halt f g = record {
      told = f.told ++ g.told;
      last = g.last;
      behind = g.behind;
      since = g.since ∙ ap (λ (l : List Report). l ++ (g.told ++ g.last ∷ g.behind)) f.since
          ∙ append_assoc (reports w.run) f.told (g.told ++ g.last ∷ g.behind)
          ∙ ap (λ (l : List Report). reports w.run ++ l)
          (sym (append_assoc f.told g.told (g.last ∷ g.behind)));
      prompt = g.prompt;
      before = g.before;
      by_one = told-both Took a b g.before f.told g.told f.by_one g.by_one;
      why = g.why;
      breaks = g.breaks;
      is = g.is;
    }

    cause-then : (w v u : World) (IsBegin IsStart : World → Type 0) (a b c : K) (halt : Halt)
        → WasTold Took w v a b → is_racing v.kept.phase ≡ is_racing w.kept.phase
        → ((x : World) → IsBegin x → IsStart x)
        → ((halt ≡ halts.Memory) × WasToldTo Took v u IsBegin b c) ⊎ WasBroken Took Broke v u b c halt
        → ((halt ≡ halts.Memory) × WasToldTo Took w u IsStart a c) ⊎ WasBroken Took Broke w u a c halt
    cause-then w v u IsBegin IsStart a b c halt told same there (inl to) =
        inl (to.0, told-to-then w v u IsBegin IsStart a b c told same there to.1)
    cause-then w v u IsBegin IsStart a b c halt told same there (inr broken) =
        inr (broken-then w v u a b c halt told broken)

-- ---- how calls end

module _ {K : Type 0} (Took : K → Report → K → Type 0) (Broke : K → Report → K → Unwritten → Type 0)
  where
    -- a call that begins where another ended
    pub ends-behind : {R : Type 0} (standing : Standing R) (f g : Act) (w v : World)
        (later : List Chance) (a b : K) (new : Moment R K)
        (r : Result (Unit {0}) Halt) → WasTold Took w v a b
        → is_racing v.kept.phase ≡ is_racing w.kept.phase → IsAs f w g v
        → Ends standing Took Broke v later g b new r
        → Ends standing Took Broke w later f a new r
    ends-behind standing f g w v later a b new (Ok done) told same alike h =
        (h.0, alike.0 ∙ h.1, h.2, told-then w v h.0 a b new.outlet told h.3, h.4, h.5 ∙ same)
    ends-behind standing f g w v later a b new (Err halt) told same alike (inl h) =
        inl (record {
          world = h.world;
          stops = alike.0 ∙ h.stops;
          tidy = h.tidy;
          leaves = h.leaves;
          told = told-then w v h.world a b new.outlet told h.told;
          left = h.left;
          same = h.same ∙ same;
        })
    ends-behind standing f g w v later a b new (Err halt) told same alike (inr h) =
        inr (record {
          world = h.world;
          tidy = h.tidy;
          counts = h.counts;
          same = h.same ∙ same;
          on_way = alike.1 h.world h.on_way;
          cause = cause-then w v h.world (BeginsAt g v) (BeginsAt f w) a b new.outlet halt told same alike.2 h.cause;
        })

    -- the first act ended early
    pub ends-early : {R : Type 0} (standing : Standing R) (f g : Act) (w : World)
        (later : List Chance) (a : K) (new : Moment R K) (halt : Halt)
        → Ends standing Took Broke w later f a new (Err halt)
        → Ends standing Took Broke w later (seq f g) a new (Err halt)
    ends-early standing f g w later a new halt (inl h) = inl (record {
      world = h.world;
      stops = ap (λ (o : Course). and_then o (λ v. perform g v)) h.stops;
      tidy = h.tidy;
      leaves = h.leaves;
      told = h.told;
      left = h.left;
      same = h.same;
    })
    ends-early standing f g w later a new halt (inr h) = inr (record {
      world = h.world;
      tidy = h.tidy;
      counts = h.counts;
      same = h.same;
      on_way = inl h.on_way;
      cause = cause-then w w h.world (BeginsAt f w) (BeginsAt (seq f g) w) a a new.outlet halt (told-none w w a a refl refl) refl
          (λ u begins. inl begins) h.cause;
    })

    -- what one value did, another did in which it stands
    pub ends-seen : {R S : Type 0} (standing : Standing R) (other : Standing S) (w : World) (later : List Chance) (act : Act) (a k : K)
        (x : R) (y : S) (r : Result (Unit {0}) Halt)
        → ((v : World) → perform act w ≡ Goes v → r ≡ Ok tt → standing.Stands v x → other.Stands v y)
        → ((v : World) (halt : Halt) → standing.Leaves halt v x → other.Leaves halt v y)
        → ((v : World) → standing.Counts v x → other.Counts v y)
        → Ends standing Took Broke w later act a (moment x k) r
        → Ends other Took Broke w later act a (moment y k) r
    ends-seen standing other w later act a k x y (Ok done) sees shows tells h = (
      h.0,
      h.1,
      record { stands = sees h.0 h.1 refl h.2.stands; tidy = h.2.tidy },
      h.3,
      h.4,
      h.5,
    )
    ends-seen standing other w later act a k x y (Err halt) sees shows tells (inl h) =
        inl (record {
          world = h.world;
          stops = h.stops;
          tidy = h.tidy;
          leaves = shows h.world halt h.leaves;
          told = h.told;
          left = h.left;
          same = h.same;
        })
    ends-seen standing other w later act a k x y (Err halt) sees shows tells (inr h) =
        inr (record {
          world = h.world;
          tidy = h.tidy;
          counts = tells h.world h.counts;
          same = h.same;
          on_way = h.on_way;
          cause = h.cause;
        })

    -- no memory, before more was told
    pub ends-memory : {R : Type 0} (standing : Standing R) (act : Act) (w : World)
        (later : List Chance) (a : K) (new : Moment R K) → IsTidy w → standing.Counts w new.value
        → new.outlet ≡ a
        → Ends standing Took Broke w later act a new (Err halts.Memory)
    ends-memory standing act w later a new tidy counts same = inr (record {
      world = w;
      tidy = tidy;
      counts = counts;
      same = refl;
      on_way = way-start act w;
      cause = inl (refl, told-here w act a new.outlet tidy same);
    })

-- ---- what a group at work does

-- what was kept since a mark is so still where only what is kept beside the run changed
pub changed-since : (f : Kept → Kept) (mark : Mark) (w : World) (old new : Stage)
    → Changed f old new → StandsSince mark w old
    → StandsSince mark (record w { kept = f w.kept }) new
changed-since f mark w old new changed since = record {
  stands = changed.stands w since.stands;
  recorded = subst (λ (cs : List ControlAt).
      HasRecorded mark (record w { kept = f w.kept }) cs (steps_of new)) (sym changed.words)
      (subst (λ (o : Option (List Step)).
      HasRecorded mark (record w { kept = f w.kept }) old.words o) (sym changed.steps)
      (recorded-so mark w f old.words (steps_of old) (changed.same w) since.recorded));
} where
  recorded-so : (mark : Mark) (w : World) (f : Kept → Kept) (words : List ControlAt)
      (o : Option (List Step))
      → (settings (record w { kept = f w.kept }) ≡ settings w) × ((f w.kept).users ≡ w.kept.users)
      × ((f w.kept).raced ≡ w.kept.raced)
      → HasRecorded mark w words o → HasRecorded mark (record w { kept = f w.kept }) words o
  recorded-so mark w f words None same is = tt
  recorded-so mark w f words (Some steps) same is = (
    same.2 ∙ is.0,
    subst (λ (users : List UserFrame).
        IsRecorded mark (settings (record w { kept = f w.kept })) users w.run words steps)
        (sym same.1)
        (subst (λ (settings : Settings). IsRecorded mark settings w.kept.users w.run words steps)
        (sym same.0) is.1),
  )

module _ {K : Type 0} {Took : K → Report → K → Type 0} {Broke : K → Report → K → Unwritten → Type 0}
  where
    -- the first act stopped
    then-err : (f g : Act) (old new : Moment Stage K) (e : Halt)
        → Did Took Broke f old new (Err e) → Did Took Broke (seq f g) old new (Err e)
    then-err f g old new e d = record {
      chances = d.chances;
      ends = λ mark w later is reached comes.
          ends-early Took Broke (stages_since mark) f g w later old.outlet new e
          (d.ends mark w later is reached comes.0);
      seats = d.seats;
    }

    -- the first act was done, and then the second ended so
    pub then-ok : (f g : Act) (old mid new : Moment Stage K) (r : Result (Unit {0}) Halt)
        → Did Took Broke f old mid (Ok tt) → Did Took Broke g mid new r
        → Did Took Broke (seq f g) old new r
    then-ok f g old mid new r d e = record {
      chances = d.chances ++ e.chances;
      ends = λ mark w later is reached comes.
          let first = d.ends mark w (e.chances ++ later)
          (both-chances w.kept.chances d.chances e.chances later is) reached comes.0 in
          let comes_later : Comes g first.0 =
          going (perform f w) first.0 (λ v. IsTidy v → Comes g v) first.1 comes.1 first.2.tidy in
          ends-behind Took Broke (stages_since mark) (seq f g) g w first.0 later
          old.outlet mid.outlet new r first.3 first.5 (as-left f g w first.0 first.1)
          (e.ends mark first.0 later first.4 first.2 comes_later);
      seats = seats-then old.value.words mid.value.words new.value.words d.seats e.seats;
    }

    pub nothing-does : (now : Moment Stage K) → Did Took Broke nothing now now (Ok tt)
    nothing-does now = record {
      chances = [];
      ends = λ mark w later is reached comes.
          (w, refl, reached, told-none w w now.outlet now.outlet refl refl, is, refl);
      seats = seats-kept now.value.words;
    }

    -- no memory, before more was told
    pub memory-does : (act : Act) (old new : Moment Stage K) → new.value.tally ≡ old.value.tally
        → new.outlet ≡ old.outlet → KeepSeats old.value.words new.value.words
        → Did Took Broke act old new (Err halts.Memory)
    memory-does act old new tally same seats = record {
      chances = [];
      ends = λ mark w later is reached comes.
          ends-memory Took Broke (stages_since mark) act w later old.outlet new reached.tidy
          (tally ∙ reached.stands.stands.tally) same;
      seats = seats;
    }

    -- what is kept changes, and nothing is told
    pub change-does : (f : Kept → Kept) (old new : Moment Stage K)
        → ((kept : Kept) → ((f kept).chances ≡ kept.chances)
        × (is_racing (f kept).phase ≡ is_racing kept.phase))
        → Changed f old.value new.value → new.outlet ≡ old.outlet
        → Did Took Broke (change f) old new (Ok tt)
    change-does f old new keeps changed same = record {
      chances = [];
      ends = λ mark w later is reached comes.
          let v : World = record w { kept = f w.kept } in (
            v,
            refl,
            record { stands = changed-since f mark w old.value new.value changed reached.stands; tidy = comes },
            told-none w v old.outlet new.outlet refl same,
            (keeps w.kept).0 ∙ is,
            (keeps w.kept).1,
          );
      seats = subst (λ (cs : List ControlAt). KeepSeats old.value.words cs) (sym changed.words)
          (seats-kept old.value.words);
    }

    -- an error that `?` hands on is the error
    pub handed-on : (act : Act) (old new : Moment Stage K) (e : Halt) (r : Result (Unit {0}) Halt)
        → Did Took Broke act old new (Err e) → IsErrAnd r (λ y. y ≡ e)
        → Did Took Broke act old new r
    handed-on act old new e r d is = hand-on (Did Took Broke) act old new e r d is

-- what is left of an act, done from here, is the whole act done from the start
abbrev pub Leads : {K : Type 0} → (K → Report → K → Type 0) → (K → Report → K → Unwritten → Type 0)
    → Act → Moment Stage K → Act → Moment Stage K → Type 0
Leads Took Broke whole old left now = LeadsBy (Did Took Broke) whole old left now

module _ {K : Type 0} {Took : K → Report → K → Type 0} {Broke : K → Report → K → Unwritten → Type 0}
  where
    pub in-turn : IsInTurn (Did Took Broke)
    in-turn = record { none = nothing-does; early = then-err; both = then-ok }

    -- what is left of an act that looks is what it is here
    pub look-leads : (f : World → Act) (here : Act) (now : Moment Stage K)
        → ((w : World) → StandsFor w now.value → IsTidy w → here ≡ f w)
        → Leads Took Broke (look f) now here now
    look-leads f here now same = record {
      turn = in-turn;
      leads = λ new r d. record {
        chances = d.chances;
        ends = λ mark w later is reached comes.
            let e : here ≡ f w = same w reached.stands.stands reached.tidy in
            subst (λ (a : Act).
            Ends (stages_since mark) Took Broke w later a now.outlet new r) e
            (d.ends mark w later is reached (subst (λ (a : Act). Comes a w) (sym e) comes));
        seats = d.seats;
      };
    }
