-- What each line performs can be performed.
use Rattle.std.proofs.Common.{◌≡◌, ◌<◌, ℕ, Bool, true, false, List, [], ◌∷◌, ◌++◌, length}
use Rattle.std.proofs.Common.{Option, Some, None, ◌⊎◌, inl, inr, refl, sym, ap, subst, arith}
use Rattle.std.specs.Prelude.{not, ◌&&◌, nat_eq, Result, Ok, Err}
use Rattle.std.specs.Cmp.Lexicographic.{pointwise}
use Rattle.std.proofs.lemmas.List.{length-map}
use Rattle.lan_base.specs.declared.frame.UserFrame.{UserFrame}
use Rattle.lan_core.specs.Run.{Profile, stations}
use Rattle.lan_core.specs.Order.{IsSendable}
use Rattle.lan_core.specs.Types.{IsUserFrame}
use Rattle.lan_core.specs.Unstopped.{AreDraws}
use Rattle.cak_roll.specs.declared.event.GroupNumber.TheVariants.{First, Second}
use Rattle.cak_roll.specs.declared.event.TwinEvent.TheVariants as twins
use Rattle.cak_roll.specs.Twin.{Twin, run_of, takes_part, IsTwinRun}
use Rattle.cak_roll.specs.Answers.{another}
use Rattle.cak_roll.proofs.Public.{lone-run}
use Rattle.trace_text.specs.declared.fault.TextFault.{TextFault}
use Rattle.trace_text.specs.declared.line.Line.{Line}
use Rattle.trace_text.specs.declared.line.Line.TheVariants as lines
use Rattle.trace_text.specs.Writing.{IsInForm}
use Rattle.trace_text.specs.declared.twin.line.RollLine.{RollLine}
use Rattle.trace_text.specs.declared.twin.line.RollLine.TheVariants.{Plain, Group2, Adopt, Leave}
use Rattle.trace_text.specs.twin.InForm.{IsInFormRoll}
use Rattle.trace_text.specs.twin.Reading.{roll_line_in}
use Rattle.trace_acts.specs.declared.choices.Choices.{Choices}
use Rattle.trace_acts.specs.declared.choices.Keyed.{Keyed}
use Rattle.trace_acts.specs.declared.halt.Kind.{Kind}
use Rattle.trace_acts.specs.declared.halt.Kind.TheVariants as kinds
use Rattle.trace_acts.specs.Kinds.{where_, unknown, is_allowed}
use Rattle.trace_acts.specs.Choosing.{chosen_by}
use Rattle.trace_acts.specs.Settings.{rule_of, secret_of, settings_of}
use Rattle.trace_acts.specs.Supply.{draw_at}
use Rattle.trace_acts.specs.Names.{is_in}
use Rattle.trace_acts.proofs.Public.{bytes-all, chosen-draws, comes-unless, new-station, not-false}
use Rattle.trace_acts.proofs.Public.{or-none, place-there}
use Rattle.trace_acts.proofs.Public.{user-at-end, where-none}
use Rattle.twin_schedule.specs.World.{World, Kept, pair_of, pair_by, count, names, place, is_out, has_adopted}
use Rattle.twin_schedule.specs.Acts.{Act, happen, rules}
use Rattle.twin_schedule.specs.Kinds.{group_of, may_be_second, may_stand, wrong, refusal}
use Rattle.twin_schedule.specs.Kinds.{refusal_read}
use Rattle.twin_schedule.specs.Lines.{is_over, send, deed, deed_plain, unless_over, unless_refused, act_of}
use Rattle.twin_schedule.specs.Lines.{deed_read, performed}
use Rattle.twin_schedule.specs.Sound.{IsTidy}
use Rattle.twin_schedule.specs.inside.Choosing.{with_second}
use Rattle.twin_schedule.specs.inside.Comes.{asks, Comes}
use Rattle.twin_schedule.proofs.Coming.{comes-flow, comes-rounds, comes-ticks, tidy-same}
use Rattle.twin_schedule.proofs.Refusing.{chooses-nothing}
use Rattle.twin_schedule.proofs.Users.{AreLegal, run-more}

-- ---- what a line is not refused for

pub record IsRight (line : RollLine) (w : World) : Type 0 where
  pub allowed : may_stand line w ≡ true
  pub words : wrong line w ≡ None

pub is-right : (line : RollLine) (w : World) → refusal line w ≡ None → IsRight line w
is-right line w e =
    let both = or-none (where_ (not (may_stand line w)) kinds.Order) (wrong line w) e in
    record {
      allowed = not-false (may_stand line w)
          (where-none (not (may_stand line w)) kinds.Order both.0);
      words = both.1;
    }

known : (name : List ℕ) (w : World) → unknown name (names w) ≡ None → place w name < count w
known name w e =
    let there : is_in name (names w)
    ≡ true = not-false (is_in name (names w)) (where-none _ kinds.NameUnknown e) in
    let lt : place w name < length (names w) =
    place-there (pointwise nat_eq name) (names w) there in
    let same : length (names w)
    ≡ count w = length-map (stations (run_of First w.run)) (λ (p : Profile). p.name) in
    omega arith

-- ---- what was chosen

-- before the first station everything chosen leaves a world tidy
pub tidy-unbegun : (w : World) (kept : Kept) → IsTidy w → w.run ≡ []
    → AreDraws (draw_at (rule_of kept.chosen)) → IsTidy (record w { kept = kept })
unfolding run_of
tidy-unbegun w kept tidy empty draws = record {
  legal = subst (λ (t : Twin). IsTwinRun (pair_by kept.chosen kept.second) kept.users t) (sym empty)
      tt;
  fresh = tidy.fresh;
  waits = λ e. empty;
  lone = λ e. ap (λ (t : Twin). run_of Second t) empty;
  draws = draws;
}

-- and behind it nothing is chosen
chosen-comes : (line : Line) → IsInForm line → (begun : Bool) (w : World) → w.kept.begun ≡ begun
    → IsTidy w → is_allowed line begun w.kept.chosen ≡ true
    → IsTidy (record w { kept = record w.kept { chosen = chosen_by line w.kept.chosen } })
chosen-comes line form true w is tidy allowed =
    subst (λ (chosen : Choices). IsTidy (record w { kept = record w.kept { chosen = chosen } }))
    (sym (chooses-nothing line w.kept.chosen allowed)) tidy
chosen-comes line form false w is tidy allowed =
    tidy-unbegun w _ tidy (tidy.waits is) (chosen-draws line form w.kept.chosen tidy.draws)

-- ---- the second group

-- there was none before
pub first-time : (ckn : List ℕ) (group second : Option Keyed) → may_be_second ckn group second ≡ true
    → second ≡ None
first-time ckn (Some first) None e = refl
first-time ckn (Some first) (Some second) e = absurd (cc e)
first-time ckn None second e = absurd (cc e)

second-comes : (cak ckn : List ℕ) (w : World) → IsTidy w → w.kept.second ≡ None
    → IsTidy (with_second cak ckn w)
second-comes cak ckn w tidy none = record {
  legal = lone-run (pair_of w) (another (settings_of w.kept.chosen) (secret_of cak) ckn)
      w.kept.users w.run tidy.legal (tidy.lone none);
  fresh = tidy.fresh;
  waits = tidy.waits;
  lone = λ e. tidy.lone none;
  draws = tidy.draws;
}

-- ---- user data

tidy-user : AreLegal → (user : UserFrame) (w : World) → IsTidy w
    → IsTidy (record w { kept = record w.kept { users = w.kept.users ++ user ∷ [] } })
tidy-user legal user w tidy = record {
  legal = run-more legal (pair_of w) w.kept.users (user ∷ []) w.run tidy.legal;
  fresh = tidy.fresh;
  waits = tidy.waits;
  lone = tidy.lone;
  draws = tidy.draws;
}

by-part : (first second : Bool) → (not first && not second) ≡ false
    → (first ≡ true) ⊎ (second ≡ true)
by-part true second e = inl refl
by-part false true e = inr refl
by-part false false e = absurd (cc e)

send-comes : AreLegal → (s : ℕ) (user : UserFrame) (w : World) → IsTidy w → IsUserFrame user
    → is_out s w.run ≡ false → Comes (send s user) w
send-comes legal s user w tidy is_user in_one = (
  tidy-user legal user w tidy,
  λ tidy_v. (
    (
      by-part (takes_part First s w.run) (takes_part Second s w.run) in_one,
      subst (λ (u : Option UserFrame). IsSendable u) (sym (user-at-end w.kept.users user)) is_user,
    ),
    tt,
  ),
)

-- ---- lines

refused-comes : (o : Option Kind) (act : Act) (w : World) → (o ≡ None → Comes act w)
    → Comes (unless_refused o act) w
refused-comes None act w h = h refl
refused-comes (Some kind) act w h = tt

over-comes : (over : Bool) (act : Act) (w : World) → Comes act w → Comes (unless_over over act) w
over-comes true act w comes = tt
over-comes false act w comes = comes

plain-comes : AreLegal → (line : Line) → IsInForm line → (w : World) → IsTidy w
    → IsRight (Plain line) w → Comes (deed_plain line w) w
plain-comes legal (lines.Station name sci priority) form w tidy right = (
  tidy-same w (record w.kept { begun = true }) tidy refl refl refl
      (λ e. absurd (let bad : true ≡ false = e in cc)),
  λ tidy_v. (
    (let both = or-none (where_ (is_in name (names w)) kinds.NameTaken) _ right.words in
        new-station name sci.0 (stations (run_of First w.run)) (where-none _ kinds.NameTaken both.0)
        (where-none _ kinds.SciTaken both.1)),
    tt,
  ),
)
plain-comes legal (lines.Tick rounds) form w tidy right = comes-rounds rounds w tidy
plain-comes legal (lines.TickOne name ticks) form w tidy right =
    comes-ticks (place w name) ticks w tidy
plain-comes legal (lines.Flow rounds) form w tidy right = comes-flow rounds w tidy
plain-comes legal (lines.Cut from to) form w tidy right = tidy-same w _ tidy refl refl refl (λ e. e)
plain-comes legal (lines.Mend from to) form w tidy right = tidy-same w _ tidy refl refl refl (λ e. e)
plain-comes legal (lines.Restart name) form w tidy right =
    comes-unless rules asks (is_out (place w name) w.run) (happen (twins.Restart (place w name))) w
    (λ e. (known name w right.words, tt))
plain-comes legal (lines.Send name destination body) form w tidy right =
    let both = or-none (unknown name (names w)) _ right.words in
    let user : UserFrame = record { destination = destination; body = body } in
    let is_user : IsUserFrame user = record {
      destination = (form.fits.1.0.0, bytes-all destination.0 form.fits.1.0.1);
      body = (form.fits.1.1.0.0, form.fits.1.1.0.1);
      octets = bytes-all body form.fits.1.1.0.2;
    } in
    over-comes (is_over w) (send (place w name) user) w
    (send-comes legal (place w name) user w tidy is_user
    (where-none (is_out (place w name) w.run) kinds.Order both.1))
plain-comes legal line form w tidy right =
    chosen-comes line form w.kept.begun w refl tidy right.allowed

pub deed-comes : AreLegal → (line : RollLine) → IsInFormRoll line → (w : World) → IsTidy w
    → IsRight line w → Comes (deed line w) w
deed-comes legal (Plain line) form w tidy right = plain-comes legal line form.0 w tidy right
deed-comes legal (Group2 cak ckn) form w tidy right =
    second-comes cak ckn w tidy
    (first-time ckn w.kept.chosen.group w.kept.second right.allowed)
deed-comes legal (Adopt name) form w tidy right =
    let both = or-none (unknown name (names w)) _ right.words in (
      (
        known name w both.0,
        where-none (has_adopted (place w name) w.run) kinds.Order both.1,
      ),
      right.allowed,
    )
deed-comes legal (Leave group name) form w tidy right =
    let both = or-none (unknown name (names w)) _ right.words in (
      not-false (takes_part (group_of group) (place w name) w.run)
          (where-none _ kinds.Order both.1),
      tt,
    )

pub line-comes : AreLegal → (line : RollLine) → IsInFormRoll line → (w : World) → IsTidy w
    → Comes (act_of line) w
line-comes legal line form w tidy =
    refused-comes (refusal line w) (deed line w) w
    (λ e. deed-comes legal line form w tidy (is-right line w e))

-- ---- texts

read-comes : AreLegal → (said : Result (Option RollLine) TextFault)
    → ((line : RollLine) → said ≡ Ok (Some line) → IsInFormRoll line) → (w : World) → IsTidy w
    → Comes (unless_refused (refusal_read said w) (deed_read said w)) w
read-comes legal (Err fault) form w tidy = tt
read-comes legal (Ok None) form w tidy = tt
read-comes legal (Ok (Some line)) form w tidy = line-comes legal line (form line refl) w tidy

pub text-comes : AreLegal
    → ((text : List ℕ) (line : RollLine) → roll_line_in text ≡ Ok (Some line) → IsInFormRoll line)
    → (text : List ℕ) (w : World) → IsTidy w → Comes (performed text) w
text-comes legal form text w tidy = (
  tidy-same w _ tidy refl refl refl (λ e. e),
  λ tidy_v. read-comes legal (roll_line_in text) (form text) _ tidy_v,
)
