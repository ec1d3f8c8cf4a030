-- Lines before the first station, and the groups that open with it.
use Rattle.std.proofs.Common.{◌≡◌, ◌<◌, ℕ, ◌+◌, Bool, true, false, cond, List, [], length, Option, Some, None}
use Rattle.std.proofs.Common.{refl, sym, ap, ◌∙◌, subst, arith}
use Rattle.std.specs.Prelude.{IfErr, IfNone, IfSome, OnOk, Result, Ok, Err, is_some, not, nat_eq, nat_lt, unwrap_or, ◌&&◌, ◌||◌, ◌==◌}
use Rattle.std.specs.Option.{is_none}
use Rattle.std.specs.Result.{IsErrAnd}
use Rattle.std.specs.Cmp.Lexicographic.{pointwise}
use Rattle.std.proofs.lemmas.Bool.{le-ltb, ne_eqb}
use Rattle.lan_base.specs.Ranges.{IsCkn, most_ckn_octets}
use Rattle.lan_base.specs.declared.frame.UserFrame.{UserFrame}
use Rattle.lan_core.specs.Run.{stations}
use Rattle.lan_core.specs.Ledgers.{air}
use Rattle.cak_roll.specs.declared.event.GroupNumber.{GroupNumber}
use Rattle.cak_roll.specs.declared.event.GroupNumber.TheVariants.{First, Second}
use Rattle.cak_roll.specs.Twin.{has_left, place_in, run_of, takes_part}
use Rattle.cak_roll.specs.declared.fault.SecondFault.TheVariants.{CknLength, SameCkn, Twice}
use Rattle.cak_roll.specs.Standing.{Held, Side, StandsFor as TwinStandsFor}
use Rattle.cak_roll.specs.Answers.{second_fault}
use Rattle.trace_text.specs.declared.line.Line.{Line}
use Rattle.trace_text.specs.declared.line.Line.TheVariants as lines
use Rattle.trace_text.specs.declared.twin.line.RollLine.{RollLine}
use Rattle.trace_text.specs.declared.twin.line.RollLine.TheVariants.{Plain, Group2, Adopt, Leave}
use Rattle.trace_acts.specs.declared.choices.Choices.{Choices}
use Rattle.trace_acts.specs.declared.choices.Keyed.{Keyed}
use Rattle.trace_acts.specs.declared.halt.Halt.{Halt}
use Rattle.trace_acts.specs.declared.halt.Halt.TheVariants as halts
use Rattle.trace_acts.specs.declared.halt.Kind.{Kind}
use Rattle.trace_acts.specs.declared.halt.Kind.TheVariants as kinds
use Rattle.lan_base.specs.declared.sink.Unwritten.{Unwritten}
use Rattle.trace_acts.specs.Kinds.{first_of, is_allowed, where_}
use Rattle.trace_acts.specs.Choosing.{chosen_by}
use Rattle.trace_acts.specs.Settings.{rule_of, secret_of, settings_of, unkeyed}
use Rattle.trace_acts.specs.Supply.{draw_at, supply_nth}
use Rattle.trace_acts.specs.Places.{IsStation}
use Rattle.twin_schedule.specs.declared.stage.Stage.{Stage}
use Rattle.twin_schedule.specs.declared.commands.TwinReplay.{TwinReplay}
use Rattle.trace_text.specs.Writing.{IsInForm}
use Rattle.twin_schedule.specs.World.{World, pair_by, waiting}
use Rattle.twin_schedule.specs.Acts.{Act, look, perform}
use Rattle.twin_schedule.specs.Kinds.{group_of, may_be_second, may_stand, refusal}
use Rattle.twin_schedule.specs.Lines.{choose, deed, deed_plain, take_second}
use Rattle.twin_schedule.specs.Reports.{Report}
use Rattle.twin_schedule.specs.Ends.{Moment, moment, IsReached}
use Rattle.twin_schedule.specs.Stages.{StandsFor as StageStandsFor}
use Rattle.twin_schedule.specs.Standing.{IsSecond, MayOpen, StandsFor}
use Rattle.twin_schedule.specs.inside.Choosing.{begun_in, with_second, CanOpen, MayJoin}
use Rattle.twin_schedule.specs.inside.Comes.{Comes}
use Rattle.twin_schedule.specs.inside.Doing.{Did, DidSo}
use Rattle.twin_schedule.proofs.Doing.{change-does, ends-behind, ends-seen, look-does, memory-any, memory-does, told-none}
use Rattle.twin_schedule.proofs.LinesCome.{first-time, is-right}
use Rattle.twin_schedule.proofs.Replaying.{is-waiting, never-does, opens-at, stands-at, waiting-does}

-- ---- refusals

pub plain-before : (line : Line) (n : ℕ) (chosen : Choices) (second : Option Keyed)
    → refusal (Plain line) (waiting n chosen second) ≡ first_of (is_allowed line false chosen) None
unfolding run_of stations
plain-before (lines.Station name sci priority) n chosen second = refl
plain-before _ n chosen second = refl

pub adopt-before : (name : List ℕ) (n : ℕ) (chosen : Choices) (second : Option Keyed)
    → refusal (Adopt name) (waiting n chosen second)
    ≡ first_of (is_some second) (Some kinds.NameUnknown)
unfolding run_of stations
adopt-before name n chosen second = refl

pub leave-before : (group : ℕ) (name : List ℕ) (n : ℕ) (chosen : Choices) (second : Option Keyed)
    (allowed : Bool) → allowed ≡ ((group == 1) || (group == 2))
    → refusal (Leave group name) (waiting n chosen second)
    ≡ first_of allowed (Some kinds.NameUnknown)
unfolding run_of stations
leave-before group name n chosen second allowed is =
    ap (λ (b : Bool). first_of b (Some kinds.NameUnknown)) (sym is)

-- what isn't refused is allowed
pub first-allows : (b : Bool) (o : Option Kind) → first_of b o ≡ None → b ≡ true
first-allows true o e = refl
first-allows false o e = absurd (cc e)

pub none-allows : (o : Option Kind) (b : Bool) → o ≡ first_of b None → IfNone o (b ≡ true)
none-allows None b is = first-allows b None (sym is)
none-allows (Some kind) b is = tt

pub order-first : (b : Bool) (o : Option Kind) → o ≡ where_ (not b) kinds.Order → o ≡ first_of b None
order-first true o is = is
order-first false o is = is

pub none-joins : (b may : Bool) (o : Option Kind) → o ≡ where_ (not b) kinds.Order → b ≡ may
    → IfNone o (may ≡ true)
none-joins true may o is same = subst (λ (o : Option Kind). IfNone o (may ≡ true)) (sym is) (sym same)
none-joins false may o is same = subst (λ (o : Option Kind). IfNone o (may ≡ true)) (sym is) tt

pub joins-of : (line : RollLine) (cak ckn : List ℕ) (first second : Option Keyed) (o : Option Kind)
    → line ≡ Group2 cak ckn → o ≡ None → IfNone o (MayJoin line first second)
    → may_be_second ckn first second ≡ true
joins-of line cak ckn first second None said none may =
    subst (λ (l : RollLine). MayJoin l first second) said may
joins-of line cak ckn first second (Some kind) said none may = absurd (cc none)

-- ---- what cannot come

none-below : (n : ℕ) → n < 0 → ⊥
none-below n lt = absurd (omega (arith, lt))

never-part : (g : GroupNumber) (s : ℕ) → takes_part g s [] ≡ true → ⊥
unfolding run_of stations
never-part First s e =
    let none : nat_lt (place_in First s []) 0 ≡ false = le-ltb (place_in First s []) 0 (omega arith) in
    let bad : false ≡ true =
    sym (ap (λ (b : Bool). b && not (has_left First s [])) none) ∙ e in cc bad
never-part Second s e =
    let none : nat_lt (place_in Second s []) 0 ≡ false =
    le-ltb (place_in Second s []) 0 (omega arith) in
    let bad : false ≡ true =
    sym (ap (λ (b : Bool). b && not (has_left Second s [])) none) ∙ e in cc bad

never-adopts : (line : ℕ) (chosen : Choices) (second : Option Keyed) (name : List ℕ)
    → Comes (deed (Adopt name) (waiting line chosen second)) (waiting line chosen second) → ⊥
unfolding run_of stations
never-adopts line chosen second name comes = none-below _ comes.0.0

never-leaves : (line : ℕ) (chosen : Choices) (second : Option Keyed) (group : ℕ) (name : List ℕ)
    → Comes (deed (Leave group name) (waiting line chosen second)) (waiting line chosen second) → ⊥
never-leaves line chosen second group name comes = never-part (group_of group) _ comes.0

module _ {K : Type 0} {Took : K → Report → K → Type 0} {Broke : K → Report → K → Unwritten → Type 0}
  where
    -- nobody joins or leaves before the first station
    pub joins-never : (line : RollLine) (old new : Moment TwinReplay K) (r : Result (Unit {0}) Halt)
        → ((x : _) → line ≡ Plain x → ⊥) → ((x : _) (x' : _) → line ≡ Group2 x x' → ⊥)
        → old.value.stage ≡ None → DidSo Took Broke (look (λ w. deed line w)) old new r
    joins-never (Plain line) old new r a b is = absurd (a line refl)
    joins-never (Group2 cak ckn) old new r a b is = absurd (b cak ckn refl)
    joins-never (Adopt name) old new r a b is =
        never-does (look (λ w. deed (Adopt name) w)) old new r (λ w stands comes.
        never-adopts old.value.line old.value.chosen old.value.second name
        (subst (λ (v : World). Comes (deed (Adopt name) v) v) (is-waiting w old.value is stands)
        comes))
    joins-never (Leave group name) old new r a b is =
        never-does (look (λ w. deed (Leave group name) w)) old new r (λ w stands comes.
        never-leaves old.value.line old.value.chosen old.value.second group name
        (subst (λ (v : World). Comes (deed (Leave group name) v) v)
        (is-waiting w old.value is stands) comes))

-- ---- what is chosen

-- what an allowed line chooses
pub chosen-deed : (line : Line) (chosen : Choices) → is_allowed line false chosen ≡ true
    → ((x : _) (x' : _) (x'' : _) → line ≡ lines.Station x x' x'' → ⊥) → (w : World)
    → choose (chosen_by line) ≡ deed_plain line w
chosen-deed line chosen allowed other w = grind arith

-- ---- what was chosen can be opened

alone : (first second : Option Keyed) → is_none first ≡ true → IsSecond first second
    → second ≡ None
alone (Some group) second none is = absurd (cc none)
alone None None none is = refl
alone None (Some keyed) none is = absurd (let bad : false ≡ true = is.1 in cc bad)

-- a line leaves it so
opens-stays : (line : Line) → IsInForm line → (chosen : Choices) (second : Option Keyed)
    → is_allowed line false chosen ≡ true → MayOpen chosen.group second
    → MayOpen (chosen_by line chosen).group second
opens-stays (lines.Group cak ckn) form chosen second allowed opens = (
  (form.fits.1.0.0, form.fits.1.0.1),
  subst (λ (o : Option Keyed). IsSecond (Some (record { cak = secret_of cak; ckn = ckn })) o)
      (sym (alone chosen.group second allowed opens.1)) tt,
)
opens-stays _ form chosen second allowed opens = opens

joins : (ckn : List ℕ) (first second : Option Keyed) → may_be_second ckn first second ≡ true
    → may_be_second ckn first None ≡ true
joins ckn (Some first) None e = e
joins ckn (Some first) (Some second) e = absurd (cc e)
joins ckn None second e = absurd (cc e)

not-true : (b : Bool) → not b ≡ true → b ≡ false
not-true true e = absurd (cc e)
not-true false e = refl

-- a second group that may come has another name
other-name : (ckn : List ℕ) (first second : Option Keyed) → may_be_second ckn first second ≡ true
    → pointwise nat_eq ckn (unwrap_or first unkeyed).ckn ≡ false
other-name ckn (Some first) None e = not-true (pointwise nat_eq ckn first.ckn) e
other-name ckn (Some first) (Some second) e = absurd (cc e)
other-name ckn None second e = absurd (cc e)

can-by : (first second : Option Keyed) → is_some first ≡ true → MayOpen first second
    → CanOpen (unwrap_or first unkeyed).ckn second
can-by None second keyed opens = absurd (cc keyed)
can-by (Some first) None keyed opens = opens.0
can-by (Some first) (Some second) keyed opens =
    (opens.0, opens.1.0, not-true (pointwise nat_eq second.ckn first.ckn) opens.1.1)

pub can-open : (chosen : Choices) (second : Option Keyed) → is_some chosen.group ≡ true
    → MayOpen chosen.group second → CanOpen (settings_of chosen).ckn second
can-open chosen second keyed opens = can-by chosen.group second keyed opens

pub can-first : (ckn : List ℕ) (second : Option Keyed) → CanOpen ckn second → IsCkn ckn
can-first ckn None opens = opens
can-first ckn (Some keyed) opens = opens.0

-- a second group is refused for nothing
no-second-fault : (held : Held) (ckn : List ℕ) → IsCkn ckn
    → pointwise nat_eq ckn held.settings.ckn ≡ false → held.second ≡ None
    → second_fault held ckn ≡ None
no-second-fault held ckn is other none =
    let some = is.0 in
    let few = is.1 in
    let long : ((length ckn == 0) || nat_lt most_ckn_octets (length ckn)) ≡ false =
    ap (λ (b : Bool). b || nat_lt most_ckn_octets (length ckn))
    (ne_eqb (length ckn) 0 (λ empty. omega (arith, some, empty)))
    ∙ le-ltb most_ckn_octets (length ckn) few in
    ap (λ (b : Bool). cond b (Some CknLength) (cond (pointwise nat_eq ckn held.settings.ckn)
    (Some SameCkn) (cond (is_some held.second) (Some Twice) None))) long
    ∙ ap (λ (b : Bool). cond b (Some SameCkn) (cond (is_some held.second) (Some Twice) None)) other
    ∙ ap (λ (o : Option Side). cond (is_some o) (Some Twice) None) none

-- where what was chosen can be opened, it is not
pub opens-second : (held : Held) (ckn : List ℕ) (second : Option Keyed) → held.settings.ckn ≡ ckn
    → held.second ≡ None → CanOpen ckn second
    → IfSome second (λ keyed. second_fault held keyed.ckn ≡ None)
opens-second held ckn None same none opens = tt
opens-second held ckn (Some keyed) same none opens =
    no-second-fault held keyed.ckn opens.1
    (ap (λ (other : List ℕ). pointwise nat_eq keyed.ckn other) same ∙ opens.2) none

none-there : (o : Option Side) → is_some o ≡ false → o ≡ None
none-there None is = refl
none-there (Some side) is = absurd (cc is)

-- an error that `?` hands on is want of memory, too
pub memory-on : {A : Type 0} (r : Result A Halt) (e : Halt) → IsErrAnd r (λ y. y ≡ e)
    → e ≡ halts.Memory → IfErr r (λ halt. halt ≡ halts.Memory)
memory-on (Ok x) e is memory = absurd is
memory-on (Err y) e is memory = is ∙ memory

-- nor where one may come behind the first station
pub joins-stage : (w : World) (stage : Stage) (ckn : List ℕ) → StageStandsFor w stage → IsCkn ckn
    → may_be_second ckn w.kept.chosen.group w.kept.second ≡ true
    → second_fault stage.twin ckn ≡ None
joins-stage w stage ckn stands is may =
    no-second-fault stage.twin ckn is
    (ap (λ s. pointwise nat_eq ckn s.ckn) stands.twin.set_up.first
    ∙ other-name ckn w.kept.chosen.group w.kept.second may)
    (none-there stage.twin.second (stands.there
    ∙ ap (λ (o : Option Keyed). is_some o) (first-time ckn w.kept.chosen.group w.kept.second may)))

module _ {K : Type 0} {Took : K → Report → K → Type 0} {Broke : K → Report → K → Unwritten → Type 0}
  where
    -- the second group comes before the first station
    pub second-does : (cak ckn : List ℕ) (old new : Moment TwinReplay K) → old.value.stage ≡ None
        → IsCkn ckn → may_be_second ckn old.value.chosen.group old.value.second ≡ true
        → new.value
        ≡ record old.value { second = Some (record { cak = secret_of cak; ckn = ckn }) }
        → new.outlet ≡ old.outlet → DidSo Took Broke (take_second cak ckn) old new (Ok tt)
    second-does cak ckn old new unbegun is may new_is outlet =
        waiting-does (λ kept. record kept { second = Some (record { cak = secret_of cak; ckn = ckn }) })
        old new unbegun (ap (λ (v : TwinReplay). v.stage) new_is ∙ unbegun)
        (ap (λ (v : TwinReplay). v.halted) new_is)
        (ap (λ (v : TwinReplay). waiting v.line v.chosen v.second) (sym new_is))
        (λ opens. subst (λ (v : TwinReplay). MayOpen v.chosen.group v.second) (sym new_is)
        (opens.0, (is, joins ckn old.value.chosen.group old.value.second may))) outlet

    -- or doesn't, for want of memory
    pub second-did : (line : RollLine) (cak ckn : List ℕ) (old new : Moment TwinReplay K)
        (r : Result (Unit {0}) Halt) → line ≡ Group2 cak ckn → old.value.stage ≡ None → IsCkn ckn
        → may_be_second ckn old.value.chosen.group old.value.second ≡ true
        → OnOk r (new.value
        ≡ record old.value { second = Some (record { cak = secret_of cak; ckn = ckn }) })
        → IfErr r (λ halt. halt ≡ halts.Memory) → new.outlet ≡ old.outlet
        → DidSo Took Broke (look (λ w. deed line w)) old new r
    second-did line cak ckn old new (Ok done) said unbegun is may new_is memory outlet =
        look-does (λ w. deed line w) (take_second cak ckn) old new (Ok tt)
        (λ w reached. sym (ap (λ (l : RollLine). deed l w) said))
        (second-does cak ckn old new unbegun is may new_is outlet)
    second-did line cak ckn old new (Err halt) said unbegun is may new_is memory outlet =
        subst (λ (h : Halt). DidSo Took Broke (look (λ w. deed line w)) old new (Err h)) (sym memory)
        (memory-does (look (λ w. deed line w)) old new outlet)

    -- the second group comes behind it, or doesn't, for want of memory
    pub joined-did : (line : RollLine) (cak ckn : List ℕ) (old new : Moment Stage K)
        (r : Result (Unit {0}) Halt) → line ≡ Group2 cak ckn → IsCkn ckn
        → ((w : World) → IsReached StageStandsFor w old.value → None ≡ refusal line w)
        → OnOk r ((w : World) → StageStandsFor w old.value
        → StageStandsFor (with_second cak ckn w) new.value)
        → ((w : World) → StageStandsFor w old.value → IsCkn ckn
        → may_be_second ckn w.kept.chosen.group w.kept.second ≡ true
        → IfErr r (λ halt. halt ≡ halts.Memory)) → new.outlet ≡ old.outlet
        → Did Took Broke (look (λ w. deed line w)) old new r
    joined-did line cak ckn old new (Ok done) said is allowed stands memory outlet =
        look-does (λ w. deed line w) (take_second cak ckn) old new (Ok tt)
        (λ w reached. sym (ap (λ (l : RollLine). deed l w) said))
        (change-does (λ kept. record kept { second = Some (record { cak = secret_of cak; ckn = ckn }) })
        old new stands outlet)
    joined-did line cak ckn old new (Err halt) said is allowed stands memory outlet = record {
      ends = λ w reached comes.
          let may = subst (λ (l : RollLine). may_stand l w ≡ true) said
          (is-right line w (sym (allowed w reached))).allowed in
          (subst (λ (h : Halt). Did Took Broke (look (λ w. deed line w)) old new (Err h))
          (sym (memory w reached.stands is may))
          (memory-does (look (λ w. deed line w)) old new outlet)).ends w reached comes;
    }

    -- the groups don't open: there is no memory
    pub unopened-does : (act : Act) (old new : Moment TwinReplay K) (r : Result (Unit {0}) Halt)
        (e : Halt) → old.value.stage ≡ None → new.outlet ≡ old.outlet
        → (MayOpen old.value.chosen.group old.value.second → e ≡ halts.Memory)
        → IsErrAnd r (λ y. y ≡ e) → DidSo Took Broke act old new r
    unopened-does act old new r e unbegun same memory is = record {
      ends = λ w reached comes.
          (memory-any act old new r same (memory (opens-at w old.value unbegun reached.stands)) is).ends
          w reached comes;
    }

    pub chosen-does : (line : Line) (old new : Moment TwinReplay K) → IsInForm line
        → is_allowed line false old.value.chosen ≡ true → old.value.stage ≡ None
        → new.value.stage ≡ None → new.value.halted ≡ old.value.halted
        → new.value.line ≡ old.value.line → new.value.second ≡ old.value.second
        → new.value.chosen ≡ chosen_by line old.value.chosen → new.outlet ≡ old.outlet
        → ((w : World) → choose (chosen_by line) ≡ deed_plain line w)
        → DidSo Took Broke (look (λ w. deed_plain line w)) old new (Ok tt)
    chosen-does line old new form allowed is_old is_new halted number second chosen outlet is =
        look-does (λ w. deed_plain line w) (choose (chosen_by line)) old new (Ok tt)
        (λ w reached. is w)
        (waiting-does (λ kept. record kept { chosen = chosen_by line kept.chosen }) old new is_old
        is_new halted (λ i. waiting (sym number i) (sym chosen i) (sym second i))
        (λ opens. subst (λ (c : Choices). MayOpen c.group new.value.second) (sym chosen)
        (subst (λ (o : Option Keyed). MayOpen (chosen_by line old.value.chosen).group o) (sym second)
        (opens-stays line form old.value.chosen old.value.second allowed opens))) outlet)

-- ---- the first station

-- what is kept of two groups in which nothing happened
pub opens : (w : World) (chosen : Choices) (keyed : Option Keyed) (line : ℕ) (stage : Stage)
    → w ≡ begun_in (waiting line chosen keyed) → is_some chosen.group ≡ true → stage.chosen ≡ chosen → stage.keyed ≡ keyed
    → stage.line ≡ line
    → ((users : List UserFrame) → TwinStandsFor (pair_by chosen keyed) users stage.twin [])
    → is_some stage.twin.second ≡ is_some keyed
    → ((k : ℕ) → supply_nth stage.draws k ≡ draw_at (rule_of chosen) k)
    → stage.scis.items ≡ [] → stage.users ≡ 0 → stage.cuts ≡ [] → stage.first.names.items ≡ []
    → stage.first.senders.items ≡ [] → stage.first.spread ≡ 0 → stage.second.names.items ≡ []
    → stage.second.senders.items ≡ [] → stage.second.spread ≡ 0
    → StageStandsFor w stage
unfolding run_of stations air
opens w chosen keyed line stage opening named is_chosen is_keyed is_line twin there draws scis users cuts
    first_names first_senders first_spread second_names second_senders second_spread =
    subst (λ (v : World). StageStandsFor v stage) (sym opening) (record {
      begun = refl;
      named = named;
      chosen = is_chosen;
      keyed = is_keyed;
      line = is_line;
      twin = twin [];
      there = there;
      draws = λ k. draws k ∙ ap (λ n. draw_at (rule_of chosen) n)
          (let e : k ≡ 0 + k = omega arith in e);
      scis = scis;
      users = users;
      cuts = cuts;
      first_party =
          record { names = first_names; senders = first_senders; spread = first_spread };
      second_party =
          record { names = second_names; senders = second_senders; spread = second_spread };
    })

module _ {K : Type 0} {Took : K → Report → K → Type 0} {Broke : K → Report → K → Unwritten → Type 0}
  where
    pub opening-does : (line : Line) (old new : Moment TwinReplay K) (stage later : Stage)
        (r : Result (Unit {0}) Halt) → IsStation line → old.value.stage ≡ None
        → StageStandsFor (begun_in (waiting old.value.line old.value.chosen old.value.second)) stage
        → Did Took Broke (look (λ w. deed_plain line w)) (moment stage old.outlet)
        (moment later new.outlet) r
        → new.value.stage ≡ Some later → new.value.halted ≡ old.value.halted
        → DidSo Took Broke (look (λ w. deed_plain line w)) old new r
    opening-does (lines.Station name sci priority) old new stage later r station unbegun there d is
        halted = record {
          ends = λ w reached comes.
              let v : World = begun_in w in
              let at : StageStandsFor v stage =
              subst (λ (u : World). StageStandsFor (begun_in u) stage)
              (sym (is-waiting w old.value unbegun reached.stands)) there in
              let act = deed_plain (lines.Station name sci priority) w in
              ends-behind StandsFor Took Broke w v (perform act v) old.outlet old.outlet new r
              (told-none w v old.outlet old.outlet refl refl)
              (ends-seen StageStandsFor StandsFor Took Broke v (perform act v) old.outlet new.outlet
              later new.value r
              (λ u goes e stands. stands-at u new.value later is (halted ∙ reached.stands.goes) stands)
              (d.ends v (record { stands = at; tidy = comes.0 }) comes));
        }
    opening-does _ old new stage later r station unbegun there d is halted = absurd station
