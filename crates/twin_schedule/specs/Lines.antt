-- What each line of a trace of two groups performs (this profile's own rule).
use Rattle.std.specs.Prelude.{ℕ, ◌+◌, ◌-◌, ◌==◌, ◌||◌, Bool, true, not, List, [], ◌∷◌, ◌++◌, length}
use Rattle.std.specs.Prelude.{if◌then◌else◌, nat_lt}
use Rattle.std.specs.Prelude.{Option, Some, Result, Ok}
use Rattle.lan_base.specs.declared.frame.UserFrame.{UserFrame}
use Rattle.lan_core.specs.declared.stop.Which.TheVariants.{Frames}
use Rattle.cak_roll.specs.declared.event.GroupNumber.{GroupNumber}
use Rattle.cak_roll.specs.declared.event.GroupNumber.TheVariants.{First, Second}
use Rattle.cak_roll.specs.declared.event.TwinEvent.TheVariants as twins
use Rattle.cak_roll.specs.Twin.{takes_part}
use Rattle.trace_text.specs.declared.fault.TextFault.{TextFault}
use Rattle.trace_text.specs.declared.line.Line.{Line}
use Rattle.trace_text.specs.declared.line.Line.TheVariants as lines
use Rattle.trace_text.specs.declared.twin.line.RollLine.{RollLine}
use Rattle.trace_text.specs.declared.twin.line.RollLine.TheVariants.{Plain, Group2, Adopt, Leave}
use Rattle.trace_text.specs.twin.Reading.{roll_line_in}
use Rattle.trace_acts.specs.declared.choices.Choices.{Choices}
use Rattle.trace_acts.specs.Settings.{secret_of}
pub use Rattle.trace_acts.specs.Settings.{most_users}
use Rattle.trace_acts.specs.Links.{is_cut, with_link, without_link}
pub use Rattle.trace_acts.specs.Acts.{line_after, unless_refused}
use Rattle.trace_acts.specs.Choosing.{chosen_by}
use Rattle.twin_schedule.specs.World.{World, Kept, count, place, joined, is_out, frames, sender}
use Rattle.twin_schedule.specs.World.{spread_in, has_spread}
use Rattle.twin_schedule.specs.Acts.{Act, nothing, exceed, happen, change, seq, look, each, span}
use Rattle.twin_schedule.specs.Acts.{times, unless}
use Rattle.twin_schedule.specs.Kinds.{group_of, refusal, first_refusal}

-- ---- settings

abbrev pub choose : (Choices → Choices) → Act
choose f = change (λ kept. record kept { chosen = f kept.chosen })

-- the second group came
abbrev pub take_second : List ℕ → List ℕ → Act
take_second cak ckn =
    change (λ kept. record kept { second = Some (record { cak = secret_of cak; ckn = ckn }) })

-- a station came
abbrev pub begin : Act
begin = change (λ kept. record kept { begun = true })

-- ---- ticks

-- a tick of a station in a group, where it takes part
abbrev pub tick_in : GroupNumber → ℕ → Act
tick_in g s = look (λ w. unless (not (takes_part g s w.run)) (happen (twins.Tick s g)))

-- a tick of a station in the first group, and then in the second
abbrev pub tick_both : ℕ → Act
tick_both s = seq (tick_in First s) (tick_in Second s)

-- a tick of each station, in the order of their starts
abbrev pub round : Act
round = look (λ w. span tick_both 0 (count w))

-- ---- frames

-- whether a group's frame passes a station by: it takes part there no more, sent the frame, or is cut
-- off
abbrev pub is_passed_by : GroupNumber → ℕ → ℕ → World → Bool
is_passed_by g from s w = not (takes_part g s w.run) || ((s == from) || is_cut from s w.kept.cuts)

-- a frame goes from one station to another, unless it passes that by
abbrev pub pass : GroupNumber → ℕ → ℕ → ℕ → Act
pass g number from s =
    look (λ w. unless (is_passed_by g from s w) (happen (twins.Deliver g number s)))

-- a frame of a group goes from its sender to those that joined the group, in that order
abbrev pub spread : GroupNumber → ℕ → Act
spread g number = look (λ w. each (pass g number (sender g number w.run)) (joined g w.run))

-- so do all of its frames that are not yet spread, by number
abbrev pub spread_group : GroupNumber → Act
spread_group g = look (λ w. seq
    (span (λ place. spread g (place + 1)) (spread_in g w.kept) (frames g w.run - spread_in g w.kept))
    (change (has_spread g (frames g w.run))))

-- a round of ticks, and then the frames of the first group, and those of the second, are spread
abbrev pub flow_round : Act
flow_round = seq round (seq (spread_group First) (spread_group Second))

-- ---- links

abbrev pub cut_in : ℕ → ℕ → Kept → Kept
cut_in from to kept = record kept { cuts = with_link from to kept.cuts }

abbrev pub mended_in : ℕ → ℕ → Kept → Kept
mended_in from to kept = record kept { cuts = without_link from to kept.cuts }

-- ---- stations

-- a station begins a new life in each group in which it takes part
abbrev pub restart : ℕ → Act
restart s = look (λ w. unless (is_out s w.run) (happen (twins.Restart s)))

abbrev pub add_user : UserFrame → Act
add_user frame = change (λ kept. record kept { users = kept.users ++ frame ∷ [] })

-- a station sends a user frame
abbrev pub send : ℕ → UserFrame → Act
send s frame = seq (add_user frame) (look (λ w. happen (twins.Send s (length w.kept.users))))

-- whether one more is more than have numbers
abbrev pub is_over : World → Bool
is_over w = nat_lt most_users (length w.kept.users + 1)

abbrev pub unless_over : Bool → Act → Act
unless_over over act = if over then exceed Frames else act

-- a station sends a user frame, unless it has no number left
abbrev pub send_new : ℕ → UserFrame → Act
send_new s frame = look (λ w. unless_over (is_over w) (send s frame))

-- ---- lines

-- what a line of one group performs that isn't refused
abbrev pub deed_plain : Line → World → Act
deed_plain (lines.Station name sci priority) w = seq begin (happen (twins.Start name sci priority))
deed_plain (lines.Tick rounds) w = times rounds round
deed_plain (lines.TickOne name ticks) w = times ticks (tick_both (place w name))
deed_plain (lines.Flow rounds) w = times rounds flow_round
deed_plain (lines.Cut from to) w = change (cut_in (place w from) (place w to))
deed_plain (lines.Mend from to) w = change (mended_in (place w from) (place w to))
deed_plain (lines.Restart name) w = restart (place w name)
deed_plain (lines.Send name destination body) w =
    send_new (place w name) (record { destination = destination; body = body })
deed_plain line w = choose (chosen_by line)

-- what a line performs that isn't refused
abbrev pub deed : RollLine → World → Act
deed (Plain line) w = deed_plain line w
deed (Group2 cak ckn) w = take_second cak ckn
deed (Adopt name) w = happen (twins.Adopt (place w name))
deed (Leave group name) w = happen (twins.Leave (place w name) (group_of group))

-- what a line performs
abbrev pub act_of : RollLine → Act
act_of line = look (λ w. unless_refused (refusal line w) (deed line w))

-- the line of this number begins
abbrev pub begin_line : ℕ → Act
begin_line number = change (λ kept. record kept { line = number })

abbrev pub at_line : ℕ → World → World
at_line number w = record w { kept = record w.kept { line = number } }

-- what the line of a number performs
abbrev pub numbered : ℕ → RollLine → Act
numbered number line = seq (begin_line number) (act_of line)

-- ---- texts

-- what a text performs that isn't refused: nothing, where it has no word or is a comment
abbrev pub deed_read : Result (Option RollLine) TextFault → World → Act
deed_read (Ok (Some line)) w = deed line w
deed_read _ w = nothing

-- what a text without its line ending performs, as the next line
abbrev pub performed : List ℕ → Act
performed text =
    seq (change (λ kept. record kept { line = line_after kept.line }))
    (look (λ w. unless_refused (first_refusal text w) (deed_read (roll_line_in text) w)))

-- what lines perform
abbrev pub performed_all : List (List ℕ) → Act
performed_all texts = each performed texts
