-- What holds of what each deed performs, and so of what a line performs outside a race.
use Rattle.std.proofs.Common.{◌≡◌, ◌<◌, ◌≤◌, ℕ, ◌+◌, ◌-◌, Bool, true, false, List, [], length, Option}
use Rattle.std.proofs.Common.{Some, None, refl, sym, ap, ◌∙◌, subst, arith}
use Rattle.std.specs.Prelude.{IfSome, is_some, nat_lt, not}
use Rattle.std.proofs.lemmas.List.{length-map}
use Rattle.lan_core.specs.declared.event.Event.TheVariants as events
use Rattle.lan_core.specs.Run.{Profile, stations}
use Rattle.lan_core.specs.Types.{AreOctets}
use Rattle.trace_text.specs.declared.line.Line.{Line}
use Rattle.trace_text.specs.declared.line.Line.TheVariants as lines
use Rattle.trace_text.specs.Writing.{IsInForm}
use Rattle.trace_acts.specs.declared.choices.Choices.{Choices}
use Rattle.trace_acts.specs.declared.halt.Kind.{Kind}
use Rattle.trace_acts.specs.declared.halt.Kind.TheVariants as kinds
use Rattle.trace_acts.specs.Choosing.{chosen_by}
use Rattle.trace_acts.specs.Kinds.{is_allowed, or_else, where_}
use Rattle.trace_acts.specs.Names.{is_in, names_of, scis_of}
use Rattle.trace_acts.specs.Places.{is_race}
use Rattle.trace_acts.proofs.Public.{bytes-all, chosen-draws, comes-span, new-station, or-none}
use Rattle.trace_acts.proofs.Public.{where-none}
use Rattle.lan_schedule.specs.declared.deed.Deed.{Deed}
use Rattle.lan_schedule.specs.declared.deed.Deed.TheVariants as deeds
use Rattle.lan_schedule.specs.declared.deed.Named.{Named}
use Rattle.lan_schedule.specs.declared.deed.Named.TheVariants as named
use Rattle.lan_schedule.specs.Races.{Bursting}
use Rattle.lan_schedule.specs.World.{World, count, is_racing}
use Rattle.lan_schedule.specs.Acts.{Act, nothing, refuse, exceed, happen, change, seq, look, race}
use Rattle.lan_schedule.specs.Deeds.{IsInRange, deed_in, deed_of, is_control, stations_named}
use Rattle.lan_schedule.specs.Kinds.{first_wrong, no_frame, no_station, taken, wrong_frame}
use Rattle.lan_schedule.specs.Kinds.{wrong_station, wrong_word}
use Rattle.lan_schedule.specs.Lines.{act, act_or, add_user, choose, deed, enter, is_over, over_excess}
use Rattle.lan_schedule.specs.Lines.{send}
use Rattle.lan_schedule.specs.Sound.{IsTidy}
use Rattle.lan_schedule.specs.inside.Comes.{Comes}
use Rattle.lan_schedule.specs.inside.Phased.{act_apart, refusal_apart}
use Rattle.lan_schedule.proofs.Coming.{IsLater, comes-flow, comes-rounds, comes-spread, comes-ticks}
use Rattle.lan_schedule.proofs.Coming.{lasts, tidy-marked}
use Rattle.lan_schedule.proofs.LinesCome.{IsRight, exceeded-comes, is-right, known, numbered-in, on-air}
use Rattle.lan_schedule.proofs.LinesCome.{refused-comes, send-comes, tidy-entered, tidy-same}
use Rattle.lan_schedule.proofs.LinesCome.{tidy-unbegun, within-air}
use Rattle.lan_schedule.proofs.Settled.{IsMild, mild-feed, mild-flow, mild-mark, mild-rounds, mild-send}
use Rattle.lan_schedule.proofs.Settled.{mild-spread, mild-ticks}
use Rattle.lan_schedule.proofs.Still.{IsStill, still-exceeded, still-refused}

-- ---- what a line performs

or-act : (P : Act → Type 0) (o : Option Deed) (other : Act)
    → ((d : Deed) → o ≡ Some d → P (act d)) → (o ≡ None → P other) → P (act_or o other)
or-act P None other does chooses = chooses refl
or-act P (Some d) other does chooses = does d refl

-- what holds of each deed, of each choice and of the beginning of a race holds of what a line performs
pub of-line : (P : Act → Type 0) (line : Line) (w : World)
    → ((d : Deed) → deed_of line w ≡ Some d → P (act d))
    → (deed_of line w ≡ None → is_race line ≡ false → P (choose (chosen_by line)))
    → (is_race line ≡ true → P (enter (Bursting []))) → P (deed line w)
of-line P lines.Race w does chooses begins = begins refl
of-line P line w does chooses begins =
    or-act P (deed_of line w) (choose (chosen_by line)) does (λ none. chooses none refl)

-- whether a deed may be done: a station's start behind the group, and another one's behind a station
abbrev pub may_act : Deed → Bool → Choices → Bool
may_act (deeds.Start name sci priority) begun chosen = is_some chosen.group
may_act _ begun chosen = begun

abbrev allowed_by : Option Deed → Bool → Bool → Choices → Bool
allowed_by None other begun chosen = other
allowed_by (Some d) other begun chosen = may_act d begun chosen

by-deed : (line : Line) (names : List (List ℕ)) (begun : Bool) (chosen : Choices)
    → is_allowed line begun chosen
    ≡ allowed_by (deed_in line names) (is_allowed line begun chosen) begun chosen
by-deed lines.Race names begun chosen = refl
by-deed _ names begun chosen = refl

-- a line may stand outside a race where its deed may be done
pub allowed-deed : (line : Line) (names : List (List ℕ)) (begun : Bool) (chosen : Choices) (d : Deed)
    → deed_in line names ≡ Some d → is_allowed line begun chosen ≡ may_act d begun chosen
allowed-deed line names begun chosen d is =
    by-deed line names begun chosen
    ∙ ap (λ (o : Option Deed). allowed_by o (is_allowed line begun chosen) begun chosen) is

never-behind : (line : Line) (names : List (List ℕ)) (chosen : Choices)
    → deed_in line names ≡ None → is_race line ≡ false → is_allowed line true chosen ≡ true → ⊥
never-behind lines.Race names chosen none isnt allowed = cc isnt
never-behind _ names chosen none isnt allowed = cc (none, isnt, allowed)

-- a line that has no deed and begins no race may stand before the first station alone
pub chosen-before : (line : Line) (names : List (List ℕ)) (begun : Bool) (chosen : Choices)
    → deed_in line names ≡ None → is_race line ≡ false → is_allowed line begun chosen ≡ true
    → begun ≡ false
chosen-before line names true chosen none isnt allowed =
    absurd (never-behind line names chosen none isnt allowed)
chosen-before line names false chosen none isnt allowed = refl

-- the words of a deed are in their ranges where those of its line are
pub in-range : (line : Line) (names : List (List ℕ)) → IsInForm line
    → IfSome (deed_in line names) IsInRange
in-range (lines.Station name sci priority) names form = (
  form.fits.0,
  record { count = form.fits.1.0.0; octets = bytes-all sci.0 form.fits.1.0.1 },
  form.fits.1.1.0.1,
)
in-range (lines.Feed first last name) names form = (form.fits.1.0.0, form.fits.1.0.1)
in-range (lines.Send name destination body) names form = record {
  destination = (form.fits.1.0.0, bytes-all destination.0 form.fits.1.0.1);
  body = (form.fits.1.1.0.0, form.fits.1.1.0.1);
  octets = bytes-all body form.fits.1.1.0.2;
}
in-range (lines.Inject name octets) names form =
    (form.fits.1.0.1, bytes-all octets form.fits.1.0.2)
in-range _ names form = tt

pub range-of : (line : Line) (names : List (List ℕ)) (d : Deed) → IsInForm line
    → deed_in line names ≡ Some d → IsInRange d
range-of line names d form is =
    subst (λ (o : Option Deed). IfSome o IsInRange) is (in-range line names form)

-- ---- mild deeds: they choose nothing, and add no user frame

abbrev pub is_mild : Deed → Bool
is_mild (deeds.Start name sci priority) = false
is_mild (deeds.Send s user) = false
is_mild _ = true

-- what is injected is octets
abbrev HasOctets : Deed → Type 0
HasOctets (deeds.Inject s octets) = AreOctets octets
HasOctets _ = Unit {0}

has-octets : (d : Deed) → IsInRange d → HasOctets d
has-octets (deeds.Inject s octets) ranges = ranges.1
has-octets _ ranges = tt

mild : (n : ℕ) (d : Deed) → HasOctets d → is_mild d ≡ true → IsMild n (act d)
mild n (deeds.Tick rounds) has is = mild-rounds n rounds
mild n (deeds.TickOne s ticks) has is = mild-ticks n s ticks
mild n (deeds.Flow rounds) has is = mild-flow n rounds
mild n (deeds.Deliver frame s) has is = tt
mild n (deeds.Feed first last s) has is = mild-feed n first last s
mild n (deeds.Spread frame) has is = mild-spread n frame
mild n (deeds.Lose frame) has is = mild-mark n frame
mild n (deeds.Cut from to) has is = λ kept. record {
  chosen = refl;
  users = refl;
  begun = refl;
  raced = refl;
  phase = refl;
  races = refl;
}
mild n (deeds.Mend from to) has is = λ kept. record {
  chosen = refl;
  users = refl;
  begun = refl;
  raced = refl;
  phase = refl;
  races = refl;
}
mild n (deeds.Restart s) has is = tt
mild n (deeds.Inject s octets) has is = has
mild n _ has is = absurd (cc is)

pub mild-act : (n : ℕ) (d : Deed) → IsInRange d → is_mild d ≡ true → IsMild n (act d)
mild-act n d ranges is = mild n d (has-octets d ranges) is

-- those of control are mild
pub control-mild : (d : Deed) → is_control d ≡ true → is_mild d ≡ true
control-mild (deeds.Start name sci priority) is = absurd (cc is)
control-mild (deeds.Send s user) is = absurd (cc is)
control-mild _ is = refl

-- ---- where the lines stand, and which races were run

-- a mild act leaves both
mild-still : (a : Act) (m : ℕ) → ((n : ℕ) → m ≤ n → IsMild n a) → IsStill a
mild-still nothing m gentle = tt
mild-still (refuse kind) m gentle = tt
mild-still (exceed excess) m gentle = tt
mild-still (happen event) m gentle = tt
mild-still (change f) m gentle = λ kept.
    let aside = gentle m (omega arith) kept in (aside.phase, aside.races)
mild-still (seq first later) m gentle = (
  mild-still first m (λ n le. (gentle n le).0),
  mild-still later m (λ n le. (gentle n le).1),
)
mild-still (look f) m gentle = λ w. mild-still (f w) (m + length w.kept.users)
    (λ n le. gentle n (omega (arith, le)) w (omega (arith, le)))
mild-still (race workers control) m gentle = absurd (gentle m (omega arith))

still-act : (d : Deed) → IsStill (act d)
still-act (deeds.Start name sci priority) = (λ kept. (refl, refl), tt)
still-act (deeds.Inject s octets) = tt
still-act (deeds.Send s user) = λ w.
    still-exceeded (over_excess (is_over w 1 1)) (seq (add_user user) (send s))
    (λ kept. (refl, refl), mild-still (send s) 0 (λ n le. mild-send n s))
still-act d = mild-still (act d) 0 (λ n le. mild n d tt refl)

-- and so does a line outside a race that begins none
pub still-deed : (line : Line) (w : World) → is_race line ≡ false → IsStill (deed line w)
still-deed line w isnt = of-line IsStill line w (λ d is. still-act d)
    (λ none other kept. (refl, refl))
    (λ is. absurd (let bad : true ≡ false = sym is ∙ isnt in cc bad))

pub still-apart : (line : Line) → is_race line ≡ false → IsStill (act_apart line)
still-apart line isnt = λ w.
    still-refused (refusal_apart line w) (deed line w) (still-deed line w isnt)

-- ---- what can be performed

-- a deed whose words are right, outside a race or one of control
pub act-comes : (d : Deed) → IsInRange d → (w : World) → IsTidy w
    → (is_control d ≡ false → is_racing w.kept.phase ≡ false)
    → wrong_frame d (length w.kept.frames) ≡ None
    → taken d (names_of w.run) (scis_of w.run) ≡ None → wrong_station d (names_of w.run) ≡ None
    → Comes (act d) w
act-comes (deeds.Start name sci priority) ranges w tidy apart frame free there = (
  tidy-same w (record w.kept { begun = true }) tidy refl refl refl refl refl
      (λ e. absurd (let bad : true ≡ false = e in cc)) (λ e. e),
  λ tidy_v. (
    (let both = or-none (where_ (is_in name (names_of w.run)) kinds.NameTaken) _ free in
        new-station name sci.0 (stations w.run) (where-none _ kinds.NameTaken both.0)
        (where-none _ kinds.SciTaken both.1)),
    apart refl,
  ),
)
act-comes (deeds.Tick rounds) ranges w tidy apart frame free there = comes-rounds rounds w tidy
act-comes (deeds.TickOne s ticks) ranges w tidy apart frame free there =
    comes-ticks s ticks w tidy (known s w there)
act-comes (deeds.Flow rounds) ranges w tidy apart frame free there = comes-flow rounds w tidy
act-comes (deeds.Deliver number s) ranges w tidy apart frame free there =
    ((known s w there, on-air number w tidy frame), tt)
act-comes (deeds.Feed first last s) ranges w tidy apart frame free there =
    let count = length w.kept.frames in
    let both = or-none (no_frame first count) _ frame in
    let low = (numbered-in first count both.0).0 in
    let high = (numbered-in last count both.1).1 in
    let here = known s w there in
    comes-span lasts (λ k. happen (events.Deliver (first + k) s)) 0 (last + 1 - first) w tidy
    (λ k v ge below l tidy_v. (
      (
        omega (arith, here, l.count),
        l.frames (first + k)
            (within-air (first + k) w tidy (omega (arith, low)) (omega (arith, below, high))),
      ),
      tt,
    ))
act-comes (deeds.Spread number) ranges w tidy apart frame free there =
    comes-spread number w tidy (on-air number w tidy frame)
act-comes (deeds.Lose number) ranges w tidy apart frame free there = tidy-marked number w tidy
act-comes (deeds.Cut from to) ranges w tidy apart frame free there =
    tidy-same w _ tidy refl refl refl refl refl (λ e. e) (λ e. e)
act-comes (deeds.Mend from to) ranges w tidy apart frame free there =
    tidy-same w _ tidy refl refl refl refl refl (λ e. e) (λ e. e)
act-comes (deeds.Restart s) ranges w tidy apart frame free there = (known s w there, tt)
act-comes (deeds.Send s user) ranges w tidy apart frame free there =
    exceeded-comes (over_excess (is_over w 1 1)) (seq (add_user user) (send s)) w
    (send-comes s user w tidy ranges (apart refl) (known s w there))
act-comes (deeds.Inject s octets) ranges w tidy apart frame free there = (
  (known s w there, (let few : length octets ≤ 1600 = ranges.0 in omega arith)),
  tt,
)

pub control-free : (d : Deed) (names scis : List (List ℕ)) → is_control d ≡ true
    → taken d names scis ≡ None
control-free (deeds.Start name sci priority) names scis is = absurd (cc is)
control-free _ names scis is = refl

-- what a line performs outside a race that isn't refused
pub deed-comes : (line : Line) → IsInForm line → (w : World) → IsTidy w
    → is_racing w.kept.phase ≡ false → IsRight line w → Comes (deed line w) w
deed-comes line form w tidy apart right = of-line (λ a. Comes a w) line w
    (λ d is.
    let words : wrong_word (Some d) (names_of w.run) (scis_of w.run) (length w.kept.frames) ≡ None =
    ap (λ (o : Option Deed). wrong_word o (names_of w.run) (scis_of w.run) (length w.kept.frames))
    (sym is) ∙ right.words in
    let outer = or-none (wrong_frame d (length w.kept.frames)) _ words in
    let inner = or-none (taken d (names_of w.run) (scis_of w.run)) _ outer.1 in
    act-comes d (range-of line _ d form is) w tidy (λ other. apart) outer.0 inner.0 inner.1)
    (λ none isnt.
    let unbegun = chosen-before line (names_of w.run) w.kept.begun w.kept.chosen none isnt
    right.allowed in
    tidy-unbegun w _ tidy (tidy.waits unbegun) refl refl refl
    (chosen-draws line form w.kept.chosen tidy.draws))
    (λ is. tidy-entered w (Bursting []) tidy (sym apart))

pub apart-comes : (line : Line) → IsInForm line → (w : World) → IsTidy w
    → is_racing w.kept.phase ≡ false → Comes (act_apart line) w
apart-comes line form w tidy apart =
    refused-comes (refusal_apart line w) (deed line w) w
    (λ e. deed-comes line form w tidy apart (is-right line w e))

-- ---- stations stay

station-later : (s : ℕ) (w v : World) → IsLater w v → no_station s (names_of w.run) ≡ None
    → no_station s (names_of v.run) ≡ None
station-later s w v later none =
    let there : s < count w = known s w none in
    let same = length-map (stations v.run) (λ (p : Profile). p.name) in
    let lt : nat_lt s (length (names_of v.run)) ≡ true = grind (arith, there, same, later.count) in
    ap (λ (b : Bool). where_ (not b) kinds.NameUnknown) lt

two-later : (from to : ℕ) (w v : World) → IsLater w v
    → or_else (no_station from (names_of w.run)) (no_station to (names_of w.run)) ≡ None
    → or_else (no_station from (names_of v.run)) (no_station to (names_of v.run)) ≡ None
two-later from to w v later none =
    let both = or-none (no_station from (names_of w.run)) _ none in
    ap (λ (o : Option Kind). or_else o (no_station to (names_of v.run)))
    (station-later from w v later both.0) ∙ station-later to w v later both.1

named-later : (all : Named ℕ) (w v : World) → IsLater w v
    → first_wrong (λ s. no_station s (names_of w.run)) all ≡ None
    → first_wrong (λ s. no_station s (names_of v.run)) all ≡ None
named-later named.Nothing w v later none = refl
named-later (named.One s) w v later none = station-later s w v later none
named-later (named.Two from to) w v later none = two-later from to w v later none

-- those of a deed are there in each later world
pub wrong-later : (d : Deed) (w v : World) → IsLater w v → wrong_station d (names_of w.run) ≡ None
    → wrong_station d (names_of v.run) ≡ None
wrong-later d w v later none = named-later (stations_named d) w v later none
