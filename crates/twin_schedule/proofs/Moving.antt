-- What is kept beside the groups changes; user data is sent; lines are performed by the places of
-- their names.
use Rattle.std.proofs.Common.{◌≡◌, ◌<◌, ◌≤◌, ℕ, ◌+◌, Bool, true, false, List, [], ◌∷◌, ◌++◌, length}
use Rattle.std.proofs.Common.{Some, refl, sym, ap, ◌∙◌, subst, length-append, arith}
use Rattle.std.specs.Prelude.{Result, Ok, Err, is_some, not}
use Rattle.std.proofs.lemmas.Bool.{le-ltb, lt-ltb}
use Rattle.lan_base.specs.declared.frame.UserFrame.{UserFrame}
use Rattle.lan_core.specs.Claims.{user_at}
use Rattle.lan_core.specs.declared.stop.Which.TheVariants.{Frames}
use Rattle.cak_roll.specs.declared.event.GroupNumber.TheVariants.{First, Second}
use Rattle.cak_roll.specs.declared.event.TwinEvent.TheVariants.{Send}
use Rattle.cak_roll.specs.Standing.{StandsFor as TwinStandsFor}
use Rattle.trace_text.specs.declared.line.Line.{Line}
use Rattle.trace_acts.specs.declared.choices.Choices.{Choices}
use Rattle.trace_acts.specs.declared.halt.Halt.{Halt}
use Rattle.trace_acts.specs.declared.halt.Halt.TheVariants as halts
use Rattle.lan_base.specs.declared.sink.Unwritten.{Unwritten}
use Rattle.trace_acts.specs.Choosing.{chosen_by}
use Rattle.trace_acts.specs.Settings.{rule_of}
use Rattle.trace_acts.specs.Supply.{draws_after, supply_nth}
use Rattle.trace_acts.specs.Places.{is_elsewhere}
use Rattle.trace_acts.proofs.Public.{allowed-then, user-at-end}
use Rattle.twin_schedule.specs.declared.stage.Stage.{Stage}
use Rattle.twin_schedule.specs.World.{World, Kept, pair_by, pair_of, place}
use Rattle.twin_schedule.specs.Acts.{Act, exceed, happen, look, perform}
use Rattle.twin_schedule.specs.Lines.{begin, choose, deed_plain, is_over, most_users, send, send_new, unless_over}
use Rattle.twin_schedule.specs.Reports.{Report}
use Rattle.twin_schedule.specs.Sound.{IsTidy}
use Rattle.twin_schedule.specs.Ends.{Moment, Ends}
use Rattle.twin_schedule.specs.Stages.{StandsFor, IsParty}
use Rattle.twin_schedule.specs.inside.Comes.{Comes}
use Rattle.twin_schedule.specs.inside.Doing.{Did, Happened}
use Rattle.twin_schedule.proofs.Doing.{change-does, ends-behind, exceed-does, look-does, told-none}
use Rattle.twin_schedule.proofs.Looking.{Places, party-kept, place-is}
use Rattle.twin_schedule.proofs.Refusing.{chooses-nothing}
use Rattle.twin_schedule.proofs.Users.{twin-more}

-- ---- what is kept changes

-- the groups at work stand for a world in which something else is kept
pub stands-kept : (w : World) (kept : Kept) (old new : Stage) → StandsFor w old
    → kept.begun ≡ true → is_some kept.chosen.group ≡ true → new.chosen ≡ kept.chosen
    → new.keyed ≡ kept.second → new.line ≡ kept.line
    → TwinStandsFor (pair_by kept.chosen kept.second) kept.users new.twin w.run
    → is_some new.twin.second ≡ is_some kept.second
    → ((k : ℕ) → supply_nth new.draws k ≡ draws_after (rule_of kept.chosen) kept.taken k)
    → new.scis ≡ old.scis → new.users ≡ length kept.users → new.cuts ≡ kept.cuts
    → IsParty First w new.first → IsParty Second w new.second
    → kept.first_spread ≡ w.kept.first_spread → kept.second_spread ≡ w.kept.second_spread
    → StandsFor (record w { kept = kept }) new
stands-kept w kept old new stands begun named chosen keyed line twin there draws scis users cuts first
    second first_spread second_spread = record {
      begun = begun;
      named = named;
      chosen = chosen;
      keyed = keyed;
      line = line;
      twin = twin;
      there = there;
      draws = draws;
      scis = ap (λ s. s.items) scis ∙ stands.scis;
      users = users;
      cuts = cuts;
      first_party = party-kept First w kept new.first first_spread first;
      second_party = party-kept Second w kept new.second second_spread second;
    }

module _ {K : Type 0} {Took : K → Report → K → Type 0} {Broke : K → Report → K → Unwritten → Type 0}
  where
    -- a station came
    pub begin-does : (now : Moment Stage K) → Did Took Broke begin now now (Ok tt)
    begin-does now =
        change-does (λ kept. record kept { begun = true }) now now
        (λ w stands. stands-kept w (record w.kept { begun = true }) now.value now.value stands refl
        stands.named stands.chosen stands.keyed stands.line stands.twin stands.there stands.draws refl
        stands.users stands.cuts stands.first_party stands.second_party refl refl) refl

    -- an act of a number that is another
    pub same-did : (act : ℕ → Act) (m n : ℕ) (old new : Moment Stage K) (r : Result (Unit {0}) Halt)
        → m ≡ n → Did Took Broke (act m) old new r → Did Took Broke (act n) old new r
    same-did act m n old new r same d =
        subst (λ (k : ℕ). Did Took Broke (act k) old new r) same d

    -- ---- user data

    -- a user frame is added, and sent
    pub send-does : (s n : ℕ) (user : UserFrame) (old mid new : Moment Stage K)
        (r : Result (Unit {0}) Halt) → mid.value ≡ record old.value { users = n }
        → mid.outlet ≡ old.outlet → n ≡ old.value.users + 1
        → Happened Took Broke (Some user) (Send s n) mid new r → Did Took Broke (send s user) old new r
    send-does s n user old mid new r same outlet is h = record {
      ends = λ w reached comes.
          let v : World = record w { kept = record w.kept { users = w.kept.users ++ user ∷ [] } } in
          let stands = reached.stands in
          let tidy : IsTidy v = comes.0 in
          let many : n ≡ length v.kept.users = is ∙ ap (λ (k : ℕ). k + 1) stands.users
          ∙ sym (length-append w.kept.users (user ∷ [])) in
          let there : StandsFor v mid.value =
          subst (λ (stage : Stage). StandsFor v stage) (sym same)
          (stands-kept w v.kept old.value (record old.value { users = n }) stands stands.begun
          stands.named stands.chosen stands.keyed stands.line
          (twin-more (pair_of w) w.kept.users (user ∷ []) old.value.twin w.run tidy.legal
          stands.twin) stands.there stands.draws refl many stands.cuts stands.first_party stands.second_party
          refl refl) in
          let may : Comes (happen (Send s n)) v =
          subst (λ (k : ℕ). Comes (happen (Send s k)) v) (sym many) (comes.1 tidy) in
          let ended = h.ends v (record { stands = there; tidy = tidy })
          (sym (ap (λ (k : ℕ). user_at v.kept.users k) many ∙ user-at-end w.kept.users user)) may in
          ends-behind StandsFor Took Broke w v (perform (happen (Send s (length v.kept.users))) v)
          old.outlet mid.outlet new r (told-none w v old.outlet mid.outlet refl outlet)
          (subst (λ (k : ℕ). Ends StandsFor Took Broke v (perform (happen (Send s k)) v) mid.outlet
          new r) many ended);
    }

    -- a user frame is sent that has a number
    pub send-new-does : (s : ℕ) (user : UserFrame) (old new : Moment Stage K)
        (r : Result (Unit {0}) Halt) → old.value.users < most_users
        → Did Took Broke (send s user) old new r → Did Took Broke (send_new s user) old new r
    send-new-does s user old new r few d =
        look-does (λ w. unless_over (is_over w) (send s user)) (send s user) old new r
        (λ w reached.
        let users = reached.stands.users in
        ap (λ (b : Bool). unless_over b (send s user))
        (sym (le-ltb most_users (length w.kept.users + 1) (omega (arith, users, few))))) d

    -- one that has none isn't
    pub over-does : (s : ℕ) (user : UserFrame) (old new : Moment Stage K) (e : Halt)
        → most_users ≤ old.value.users → e ≡ halts.Limit Frames → new.outlet ≡ old.outlet
        → Did Took Broke (send_new s user) old new (Err e)
    over-does s user old new e many is same =
        look-does (λ w. unless_over (is_over w) (send s user)) (exceed Frames) old new (Err e)
        (λ w reached.
        let users = reached.stands.users in
        ap (λ (b : Bool). unless_over b (send s user))
        (sym (lt-ltb most_users (length w.kept.users + 1) (omega (arith, users, many)))))
        (subst (λ (h : Halt). Did Took Broke (exceed Frames) old new (Err h)) (sym is)
        (exceed-does Frames old new same))

    -- ---- lines

    pub same-line : (line : Line) (act : Act) (old new : Moment Stage K) (r : Result (Unit {0}) Halt)
        → ((w : World) → act ≡ deed_plain line w) → Did Took Broke act old new r
        → Did Took Broke (look (λ w. deed_plain line w)) old new r
    same-line line act old new r same d =
        look-does (λ w. deed_plain line w) act old new r (λ w reached. same w) d

    -- an act at the place of a name
    pub one-place : (f : World → Act) (name : List ℕ) (act : ℕ → Act) (s : ℕ) (old new : Moment Stage K)
        (r : Result (Unit {0}) Halt) → ((w : World) → act (place w name) ≡ f w)
        → Places old.value name s → Did Took Broke (act s) old new r
        → Did Took Broke (look f) old new r
    one-place f name act s old new r same is d =
        look-does f (act s) old new r
        (λ w reached. ap (λ (n : ℕ). act n) (place-is w old.value name s reached is) ∙ same w) d

    pub two-places : (f : World → Act) (from to : List ℕ) (act : ℕ → ℕ → Act) (s t : ℕ)
        (old new : Moment Stage K) (r : Result (Unit {0}) Halt)
        → ((w : World) → act (place w from) (place w to) ≡ f w) → Places old.value from s
        → Places old.value to t → Did Took Broke (act s t) old new r
        → Did Took Broke (look f) old new r
    two-places f from to act s t old new r same is_from is_to d =
        look-does f (act s t) old new r
        (λ w reached. ap (λ (n : ℕ). act n t) (place-is w old.value from s reached is_from)
        ∙ ap (λ (n : ℕ). act (place w from) n) (place-is w old.value to t reached is_to)
        ∙ same w) d

    -- a line that isn't refused and would choose performs nothing
    pub chosen-none : (line : Line) (now : Moment Stage K) → is_elsewhere line ≡ false
        → ((w : World) → choose (chosen_by line) ≡ deed_plain line w)
        → Did Took Broke (look (λ w. deed_plain line w)) now now (Ok tt)
    chosen-none line now later is =
        same-line line (choose (chosen_by line)) now now (Ok tt) is
        (change-does (λ kept. record kept { chosen = chosen_by line kept.chosen }) now now
        (λ w stands. subst (λ (chosen : Choices).
        StandsFor (record w { kept = record w.kept { chosen = chosen } }) now.value)
        (sym (chooses-nothing line w.kept.chosen
        (allowed-then line w.kept.chosen stands.named ∙ ap not later))) stands) refl)
