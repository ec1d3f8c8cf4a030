-- Acts are done one after the other.
use Rattle.std.proofs.Common.{◌≡◌, Bool, true, false, ◌∷◌, ◌++◌, inl, inr, refl, sym, ap}
use Rattle.std.proofs.Common.{◌∙◌, subst, append_assoc}
use Rattle.std.specs.Prelude.{◌⊎◌, List, Result, Ok, Err, Option, Some, None}
use Rattle.std.specs.Result.{IsErrAnd}
use Rattle.lan_core.specs.declared.stop.Stop.{Stop}
use Rattle.lan_core.specs.declared.stop.Which.{Which}
use Rattle.cak_roll.specs.declared.event.TwinEvent.{TwinEvent}
use Rattle.cak_roll.specs.Twin.{TwinHappening}
use Rattle.cak_roll.specs.Stepping.{happening, twin_stop}
use Rattle.trace_acts.specs.declared.halt.Halt.{Halt}
use Rattle.trace_acts.specs.declared.halt.Halt.TheVariants as halts
use Rattle.lan_base.specs.declared.sink.Unwritten.{Unwritten}
use Rattle.trace_acts.proofs.Public.{and-longer, begins-self, begins-then, going, told-both}
use Rattle.trace_acts.proofs.Public.{told-then, grows as grows-by, handed-on as hand-on}
use Rattle.trace_acts.proofs.Public.{IsInTurn, Leads as LeadsBy, Stays}
pub use Rattle.trace_acts.proofs.Public.{each-end, each-err, each-step, leads-end, leads-err}
pub use Rattle.trace_acts.proofs.Public.{leads-start, leads-step, span-end, span-exit, span-start}
pub use Rattle.trace_acts.proofs.Public.{span-step, told-none}
use Rattle.twin_schedule.specs.World.{World, Kept, pair_of}
use Rattle.twin_schedule.specs.Acts.{Act, nothing, exceed, change, seq, look, perform}
use Rattle.twin_schedule.specs.Acts.{Course, Goes, and_then, supply, answered, rules, unless}
use Rattle.twin_schedule.specs.Reports.{Report, last_reports, reports}
use Rattle.twin_schedule.specs.Sound.{IsTidy}
use Rattle.twin_schedule.specs.Ends.{Moment, moment, Begins, IsReached, reported, WasTold}
use Rattle.twin_schedule.specs.Ends.{WasBroken, Ends}
use Rattle.twin_schedule.specs.inside.Comes.{Comes}
use Rattle.twin_schedule.specs.inside.Doing.{DidAs}

-- ---- what was shown stays

answered-begins : (w : World) (event : TwinEvent) (stop : Option Stop) (o : Option TwinHappening)
    → Begins (reports w.run) (reported (answered w event stop o))
answered-begins w event (Some stop) o = begins-self (reports w.run)
answered-begins w event None (Some x) =
    record { more = last_reports (x ∷ w.run); parts = refl }
answered-begins w event None None = begins-self (reports w.run)

pub stays : Stays rules reports
stays = record {
  happens = λ w event.
      answered-begins w event (twin_stop (pair_of w) w.kept.users w.run event (supply w))
      (happening (pair_of w) w.kept.users w.run event (supply w));
  beside = λ none w out. absurd none;
}

pub grows : (act : Act) (w : World) → Begins (reports w.run) (reported (perform act w))
grows act w = grows-by stays act w

-- ---- what was told

module _ {K : Type 0} {Took : K → Report → K → Type 0} {Broke : K → Report → K → Unwritten → Type 0}
  where
    broken-then : (w v u : World) (a b c : K) (halt : Halt) → WasTold Took w v a b
        → WasBroken Took Broke v u b c halt → WasBroken Took Broke w u a c halt
    broken-then w v u a b c halt f g = record {
      told = f.told ++ g.told;
      last = g.last;
      behind = g.behind;
      since = g.since ∙ ap (λ (l : List Report). l ++ (g.told ++ g.last ∷ g.behind)) f.since
          ∙ append_assoc (reports w.run) f.told (g.told ++ g.last ∷ g.behind)
          ∙ ap (λ (l : List Report). reports w.run ++ l)
          (sym (append_assoc f.told g.told (g.last ∷ g.behind)));
      front = g.front;
      prompt = g.prompt;
      before = g.before;
      by_one = told-both Took a b g.before f.told g.told f.by_one g.by_one;
      why = g.why;
      breaks = g.breaks;
      is = g.is;
    }

    cause-then : (w v u : World) (a b c : K) (halt : Halt) → WasTold Took w v a b
        → ((halt ≡ halts.Memory) × WasTold Took v u b c) ⊎ WasBroken Took Broke v u b c halt
        → ((halt ≡ halts.Memory) × WasTold Took w u a c) ⊎ WasBroken Took Broke w u a c halt
    cause-then w v u a b c halt f (inl g) = inl (g.0, told-then w v u a b c f g.1)
    cause-then w v u a b c halt f (inr g) = inr (broken-then w v u a b c halt f g)

-- ---- how calls end

module _ {R K : Type 0} (Stands : World → R → Type 0) (Took : K → Report → K → Type 0)
    (Broke : K → Report → K → Unwritten → Type 0) where
  -- a call that begins where another ended
  pub ends-behind : (w v : World) (out : Course) (a b : K) (new : Moment R K)
      (r : Result (Unit {0}) Halt) → WasTold Took w v a b
      → Ends Stands Took Broke v out b new r → Ends Stands Took Broke w out a new r
  ends-behind w v out a b new (Ok done) f h =
      (h.0, h.1, h.2, told-then w v h.0 a b new.outlet f h.3)
  ends-behind w v out a b new (Err halt) f (inl h) = inl (record {
    world = h.world;
    stops = h.stops;
    tidy = h.tidy;
    told = told-then w v h.world a b new.outlet f h.told;
  })
  ends-behind w v out a b new (Err halt) f (inr h) = inr (record {
    world = h.world;
    tidy = h.tidy;
    begins = h.begins;
    cause = cause-then w v h.world a b new.outlet halt f h.cause;
  })

  -- the first act ended early
  pub ends-early : (w : World) (out : Course) (g : Act) (a : K) (new : Moment R K) (halt : Halt)
      → Ends Stands Took Broke w out a new (Err halt)
      → Ends Stands Took Broke w (and_then out (λ v. perform g v)) a new (Err halt)
  ends-early w out g a new halt (inl h) = inl (record {
    world = h.world;
    stops = ap (λ (o : Course). and_then o (λ v. perform g v)) h.stops;
    tidy = h.tidy;
    told = h.told;
  })
  ends-early w out g a new halt (inr h) = inr (record {
    world = h.world;
    tidy = h.tidy;
    begins = begins-then (reports h.world.run) (reported out) _ h.begins (and-longer stays out g);
    cause = h.cause;
  })

  -- no memory, before more was told
  pub ends-memory : (act : Act) (w : World) (a : K) (new : Moment R K) → IsTidy w
      → new.outlet ≡ a
      → Ends Stands Took Broke w (perform act w) a new (Err halts.Memory)
  ends-memory act w a new tidy same = inr (record {
    world = w;
    tidy = tidy;
    begins = grows act w;
    cause = inl (refl, told-none w w a new.outlet refl same);
  })

-- what one value did, another did that stands where it stands
pub ends-seen : {R S K : Type 0} (Stands : World → R → Type 0) (Sees : World → S → Type 0)
    (Took : K → Report → K → Type 0) (Broke : K → Report → K → Unwritten → Type 0) (w : World)
    (out : Course) (a k : K) (x : R) (y : S) (r : Result (Unit {0}) Halt)
    → ((v : World) → out ≡ Goes v → r ≡ Ok tt → Stands v x → Sees v y)
    → Ends Stands Took Broke w out a (moment x k) r → Ends Sees Took Broke w out a (moment y k) r
ends-seen Stands Sees Took Broke w out a k x y (Ok done) sees h =
    (h.0, h.1, record { stands = sees h.0 h.1 refl h.2.stands; tidy = h.2.tidy }, h.3)
ends-seen Stands Sees Took Broke w out a k x y (Err halt) sees h = h

-- ---- what calls do

module _ {R K : Type 0} {Stands : World → R → Type 0} {Took : K → Report → K → Type 0}
    {Broke : K → Report → K → Unwritten → Type 0} where
  -- an act that is another in each world for which the value stands
  pub same-act : (f g : Act) (old new : Moment R K) (r : Result (Unit {0}) Halt)
      → ((w : World) → IsReached Stands w old.value → perform f w ≡ perform g w)
      → ((w : World) → IsReached Stands w old.value → Comes f w → Comes g w)
      → DidAs Stands Took Broke g old new r → DidAs Stands Took Broke f old new r
  same-act f g old new r same comes d = record {
    ends = λ w reached may.
        subst (λ (out : Course). Ends Stands Took Broke w out old.outlet new r)
        (sym (same w reached)) (d.ends w reached (comes w reached may));
  }

  -- the first act ended early
  pub then-err : (f g : Act) (old new : Moment R K) (e : Halt)
      → DidAs Stands Took Broke f old new (Err e) → DidAs Stands Took Broke (seq f g) old new (Err e)
  then-err f g old new e d = record {
    ends = λ w reached may.
        ends-early Stands Took Broke w (perform f w) g old.outlet new e (d.ends w reached may.0);
  }

  -- the first act was done, and then the second ended so
  pub then-ok : (f g : Act) (old mid new : Moment R K) (r : Result (Unit {0}) Halt)
      → DidAs Stands Took Broke f old mid (Ok tt) → DidAs Stands Took Broke g mid new r
      → DidAs Stands Took Broke (seq f g) old new r
  then-ok f g old mid new r d e = record {
    ends = λ w reached may.
        let first = d.ends w reached may.0 in
        let later : Comes g first.0 =
        going (perform f w) first.0 (λ v. IsTidy v → Comes g v) first.1 may.1 first.2.tidy in
        subst (λ (out : Course). Ends Stands Took Broke w (and_then out (λ v. perform g v))
        old.outlet new r) (sym first.1)
        (ends-behind Stands Took Broke w first.0 (perform g first.0) old.outlet mid.outlet new r
        first.3 (e.ends first.0 first.2 later));
  }

  pub nothing-does : (now : Moment R K) → DidAs Stands Took Broke nothing now now (Ok tt)
  nothing-does now = record {
    ends = λ w reached may. (w, refl, reached, told-none w w now.outlet now.outlet refl refl);
  }

  -- a limit is passed, and nothing is told
  pub exceed-does : (which : Which) (old new : Moment R K) → new.outlet ≡ old.outlet
      → DidAs Stands Took Broke (exceed which) old new (Err (halts.Limit which))
  exceed-does which old new same = record {
    ends = λ w reached may.
        inl (record {
          world = w;
          stops = refl;
          tidy = reached.tidy;
          told = told-none w w old.outlet new.outlet refl same;
        });
  }

  -- no memory, before more was told
  pub memory-does : (act : Act) (old new : Moment R K) → new.outlet ≡ old.outlet
      → DidAs Stands Took Broke act old new (Err halts.Memory)
  memory-does act old new same = record {
    ends = λ w reached may. ends-memory Stands Took Broke act w old.outlet new reached.tidy same;
  }

  -- what is kept changes, and nothing is told
  pub change-does : (f : Kept → Kept) (old new : Moment R K)
      → ((w : World) → Stands w old.value → Stands (record w { kept = f w.kept }) new.value)
      → new.outlet ≡ old.outlet → DidAs Stands Took Broke (change f) old new (Ok tt)
  change-does f old new changed same = record {
    ends = λ w reached may.
        let v : World = record w { kept = f w.kept } in (
          v,
          refl,
          record { stands = changed w reached.stands; tidy = may },
          told-none w v old.outlet new.outlet refl same,
        );
  }

  -- an error that `?` hands on is the error
  pub handed-on : (act : Act) (old new : Moment R K) (e : Halt) (r : Result (Unit {0}) Halt)
      → DidAs Stands Took Broke act old new (Err e) → IsErrAnd r (λ y. y ≡ e)
      → DidAs Stands Took Broke act old new r
  handed-on act old new e r d is = hand-on (DidAs Stands Took Broke) act old new e r d is

  -- an error that `?` hands on, where the error is want of memory
  pub memory-any : (act : Act) (old new : Moment R K) (r : Result (Unit {0}) Halt) {e : Halt}
      → new.outlet ≡ old.outlet → e ≡ halts.Memory → IsErrAnd r (λ y. y ≡ e)
      → DidAs Stands Took Broke act old new r
  memory-any act old new r {e} same memory is =
      handed-on act old new e r
      (subst (λ (h : Halt). DidAs Stands Took Broke act old new (Err h)) (sym memory)
      (memory-does act old new same)) is

  -- an act that looks is what it is here
  pub look-does : (f : World → Act) (here : Act) (old new : Moment R K)
      (r : Result (Unit {0}) Halt)
      → ((w : World) → IsReached Stands w old.value → here ≡ f w)
      → DidAs Stands Took Broke here old new r → DidAs Stands Took Broke (look f) old new r
  look-does f here old new r same d =
      same-act (look f) here old new r
      (λ w reached. ap (λ (act : Act). perform act w) (sym (same w reached)))
      (λ w reached may. subst (λ (act : Act). Comes act w) (sym (same w reached)) may) d

  -- an act that is skipped where a test holds
  pub unless-skips : (test : World → Bool) (act : World → Act) (now : Moment R K)
      → ((w : World) → Stands w now.value → test w ≡ true)
      → DidAs Stands Took Broke (look (λ w. unless (test w) (act w))) now now (Ok tt)
  unless-skips test act now holds =
      look-does (λ w. unless (test w) (act w)) nothing now now (Ok tt)
      (λ w reached. ap (λ (b : Bool). unless b (act w)) (sym (holds w reached.stands)))
      (nothing-does now)

  pub unless-does : (test : World → Bool) (act : Act) (old new : Moment R K)
      (r : Result (Unit {0}) Halt) → ((w : World) → Stands w old.value → test w ≡ false)
      → DidAs Stands Took Broke act old new r
      → DidAs Stands Took Broke (look (λ w. unless (test w) act)) old new r
  unless-does test act old new r never d =
      look-does (λ w. unless (test w) act) act old new r
      (λ w reached. ap (λ (b : Bool). unless b act) (sym (never w reached.stands))) d

-- what is left of an act, done from here, is the whole act done from the start
abbrev pub Leads : {R K : Type 0} → (World → R → Type 0) → (K → Report → K → Type 0)
    → (K → Report → K → Unwritten → Type 0) → Act → Moment R K → Act → Moment R K → Type 0
Leads Stands Took Broke whole old left now = LeadsBy (DidAs Stands Took Broke) whole old left now

module _ {R K : Type 0} {Stands : World → R → Type 0} {Took : K → Report → K → Type 0}
    {Broke : K → Report → K → Unwritten → Type 0} where
  pub in-turn : IsInTurn (DidAs Stands Took Broke)
  in-turn = record { none = nothing-does; early = then-err; both = then-ok }

  -- what is left of an act that looks is what it is here
  pub look-leads : (f : World → Act) (here : Act) (now : Moment R K)
      → ((w : World) → IsReached Stands w now.value → here ≡ f w)
      → Leads Stands Took Broke (look f) now here now
  look-leads f here now same =
      record { turn = in-turn; leads = λ new r d. look-does f here now new r same d }
