-- What each line of a trace performs (this profile's own rule).
use Rattle.std.specs.Prelude.{ℕ, ◌+◌, ◌-◌, ◌==◌, ◌||◌, ◌&&◌, nat_le, not, Bool, true, List}
use Rattle.std.specs.Prelude.{[], ◌∷◌, ◌++◌, length, map, min, nat_lt, if◌then◌else◌}
use Rattle.std.specs.List.{filter}
use Rattle.std.specs.Option.{option_or}
use Rattle.std.specs.Prelude.{Option, Some, None, Result, Ok}
use Rattle.lan_base.specs.declared.frame.UserFrame.{UserFrame}
use Rattle.lan_core.specs.declared.event.Event.TheVariants.{Start, Tick, Deliver, Restart, Claim}
use Rattle.lan_core.specs.declared.event.Event.TheVariants.{Emit, Inject}
use Rattle.lan_core.specs.Ledgers.{air, claims}
use Rattle.lan_base.specs.Ranges.{most_frames}
use Rattle.lan_core.specs.Order.{most_octets}
use Rattle.trace_text.specs.declared.fault.TextFault.{TextFault}
use Rattle.trace_text.specs.declared.line.Line.{Line}
use Rattle.trace_text.specs.declared.line.Line.TheVariants as lines
use Rattle.trace_text.specs.Reading.{line_in}
use Rattle.trace_acts.specs.declared.halt.Kind.TheVariants.{NoEnd}
use Rattle.trace_acts.specs.declared.choices.Choices.{Choices}
use Rattle.trace_acts.specs.Settings.{lag_of}
pub use Rattle.trace_acts.specs.Acts.{line_after, unless_refused}
use Rattle.trace_acts.specs.Choosing.{chosen_by}
use Rattle.trace_acts.specs.Links.{is_cut, with_link, without_link}
use Rattle.lan_schedule.specs.declared.frames.Put.{Put}
use Rattle.lan_schedule.specs.Races.{Phase, Apart, Bursting, Controlling, Racing, Burst, Numbered}
use Rattle.lan_schedule.specs.Races.{Excess, TooManyFrames, TooManyOctets, frames_asked, octets_asked}
use Rattle.lan_schedule.specs.Races.{jobs_in, most_claimed, most_users, workers_of}
use Rattle.lan_schedule.specs.World.{World, Kept, count, sender, mark, air_octets}
use Rattle.lan_schedule.specs.Deeds.{burst_of, deed_of, kept_line}
use Rattle.lan_schedule.specs.declared.deed.Deed.{Deed}
use Rattle.lan_schedule.specs.declared.deed.Deed.TheVariants as deeds
use Rattle.lan_schedule.specs.Numbers.{number_shown, number_claimed}
use Rattle.lan_schedule.specs.Acts.{Act, nothing, refuse, happen, change, seq, look, each, span}
use Rattle.lan_schedule.specs.Acts.{times, unless, exceed, race}
use Rattle.lan_schedule.specs.Kinds.{refusal, first_refusal, wrong_frame}

-- ---- settings

abbrev pub choose : (Choices → Choices) → Act
choose f = change (λ kept. record kept { chosen = f kept.chosen })

-- a station came
abbrev pub begin : Act
begin = change (λ kept. record kept { begun = true })

-- ---- ticks

-- a tick of one station, which shows the next packet number
abbrev pub tick : ℕ → Act
tick s = look (λ w. happen (Tick s (number_shown w s)))

-- a tick of each station
abbrev pub round : Act
round = look (λ w. span tick 0 (count w))

-- ---- frames

-- whether a frame that is spread passes a station by: it sent the frame, or is cut off
abbrev pub is_passed_by : World → ℕ → ℕ → Bool
is_passed_by w from s = (s == from) || is_cut from s w.kept.cuts

-- a frame goes from one station to another, unless it passes that by
abbrev pub pass : ℕ → ℕ → ℕ → Act
pass number from s = look (λ w. unless (is_passed_by w from s) (happen (Deliver number s)))

-- a frame goes from one station to all others along the links that are whole
abbrev pub to_others : ℕ → ℕ → Act
to_others number from = look (λ w. span (pass number from) 0 (count w))

-- a frame goes to all others, and is marked
abbrev pub spread : ℕ → Act
spread number = look (λ w. seq (to_others number (sender w number)) (change (mark number)))

-- whether a frame's round has come: it isn't marked, and the rounds since it came are the lag at
-- least
abbrev pub is_due : ℕ → ℕ → Put → Bool
is_due lag rounds put = not put.marked && nat_le (put.at + lag) rounds

-- the numbers of the frames whose round has come
abbrev pub due_of : ℕ → ℕ → List Put → List ℕ
due_of lag rounds frames = map (λ put. put.number) (filter (is_due lag rounds) frames)

abbrev pub due : World → List ℕ
due w = due_of (lag_of w.kept.chosen) w.kept.rounds w.kept.frames

-- the count of flow rounds with one more, as far as 64 bits count them
abbrev pub round_after : ℕ → ℕ
round_after rounds = min (rounds + 1) 18446744073709551615

abbrev pub begin_round : Act
begin_round = change (λ kept. record kept { rounds = round_after kept.rounds })

-- a round of ticks, and then each frame whose round has come is spread, in the order of the numbers
abbrev pub flow_round : Act
flow_round = seq begin_round (seq round (look (λ w. each spread (due w))))

-- the frames from one number to another reach a station, in their order
abbrev pub feed : ℕ → ℕ → ℕ → Act
feed first last s = span (λ k. happen (Deliver (first + k) s)) 0 (last + 1 - first)

-- ---- links

abbrev pub cut_in : ℕ → ℕ → Kept → Kept
cut_in from to kept = record kept { cuts = with_link from to kept.cuts }

abbrev pub mended_in : ℕ → ℕ → Kept → Kept
mended_in from to kept = record kept { cuts = without_link from to kept.cuts }

-- ---- user data

-- a claim that got a number is emitted
abbrev pub claim : ℕ → ℕ → ℕ → Act
claim s user pn = seq (happen (Claim s user pn)) (unless (pn == 0) (happen Emit))

-- a station sends the user frame that was added last
abbrev pub send : ℕ → Act
send s = look (λ w. claim s (length w.kept.users) (number_claimed w s))

abbrev pub add_user : UserFrame → Act
add_user frame = change (λ kept. record kept { users = kept.users ++ frame ∷ [] })

-- whether so many user frames more, or so many claims, are more than have numbers
abbrev pub is_over : World → ℕ → ℕ → Bool
is_over w more asked =
    nat_lt most_users (length w.kept.users + more)
    || nat_lt most_claimed (length (claims w.run) + asked)

abbrev pub over_excess : Bool → Option Excess
over_excess over = if over then Some TooManyFrames else None

abbrev pub unless_exceeded : Option Excess → Act → Act
unless_exceeded None act = act
unless_exceeded (Some excess) act = exceed excess

-- a user frame is added and sent, unless it has no number left
abbrev pub send_new : UserFrame → ℕ → Act
send_new frame s =
    look (λ w. unless_exceeded (over_excess (is_over w 1 1)) (seq (add_user frame) (send s)))

-- ---- races

-- the lines stand elsewhere
abbrev pub enter : Phase → Act
enter phase = change (λ kept. record kept { phase = phase })

-- where the lines stand behind a line behind `race`, which is kept, or behind which those of control
-- come
abbrev pub behind_race : Line → World → List Burst → Phase
behind_race lines.While w bursts = Controlling bursts []
behind_race line w bursts = Bursting (bursts ++ burst_of w line)

-- where they stand behind a line of control, which is kept
abbrev pub behind_while : Line → World → List Burst → List Numbered → Phase
behind_while line w bursts control = Controlling bursts (control ++ kept_line w (deed_of line w))

-- ---- lines

-- what a deed performs
abbrev pub act : Deed → Act
act (deeds.Start name sci priority) = seq begin (happen (Start name sci priority))
act (deeds.Tick rounds) = times rounds round
act (deeds.TickOne s ticks) = times ticks (tick s)
act (deeds.Flow rounds) = times rounds flow_round
act (deeds.Deliver frame s) = happen (Deliver frame s)
act (deeds.Feed first last s) = feed first last s
act (deeds.Spread frame) = spread frame
act (deeds.Lose frame) = change (mark frame)
act (deeds.Cut from to) = change (cut_in from to)
act (deeds.Mend from to) = change (mended_in from to)
act (deeds.Restart s) = happen (Restart s)
act (deeds.Send s user) = send_new user s
act (deeds.Inject s octets) = happen (Inject s octets)

-- what performs its deed, or another act where it has none
abbrev pub act_or : Option Deed → Act → Act
act_or None other = other
act_or (Some d) other = act d

-- what a line performs outside a race that isn't refused
abbrev pub deed : Line → World → Act
deed lines.Race w = enter (Bursting [])
deed line w = act_or (deed_of line w) (choose (chosen_by line))

-- the line of this number begins
abbrev pub begin_line : ℕ → Act
begin_line number = change (λ kept. record kept { line = number })

-- a line of control is performed beside the workers; that its frame isn't there shows only now
abbrev pub controlled : Numbered → Act
controlled kept = seq (begin_line kept.number) (look (λ w.
    unless_refused (wrong_frame kept.deed (length w.kept.frames)) (act kept.deed)))

-- the lines of control, one after the other
abbrev pub control_act : List Numbered → Act
control_act control = each controlled control

-- the first limit of which bursts ask for more than the air leaves
abbrev pub air_excess : List Burst → World → Option Excess
air_excess bursts w =
    if nat_lt most_frames (length (air w.run) + frames_asked bursts) then Some TooManyFrames
    else if nat_lt most_octets (air_octets w.run + octets_asked bursts) then Some TooManyOctets
    else None

-- and else whether they ask for more than there are numbers for
abbrev pub excess_of : List Burst → World → Option Excess
excess_of bursts w =
    option_or (air_excess bursts w)
    (over_excess (is_over w (length (workers_of bursts)) (jobs_in (workers_of bursts))))

-- a race is run
abbrev pub run_race : List Burst → List Numbered → World → Act
run_race bursts control w =
    unless_exceeded (excess_of bursts w) (race (workers_of bursts) (control_act control))

-- what a line performs behind `while`: the race is run, or a line of control is kept
abbrev pub deed_controlling : Line → World → List Burst → List Numbered → Act
deed_controlling lines.End w bursts control = run_race bursts control w
deed_controlling line w bursts control = enter (behind_while line w bursts control)

-- what a line performs where it stands that isn't refused; the lines of a race are kept until it ends
abbrev pub deed_at : Line → World → Phase → Act
deed_at line w Apart = deed line w
deed_at line w (Bursting bursts) = enter (behind_race line w bursts)
deed_at line w (Controlling bursts control) = deed_controlling line w bursts control
deed_at line w Racing = nothing

-- what a line performs
abbrev pub act_of : Line → Act
act_of line = look (λ w. unless_refused (refusal line w) (deed_at line w w.kept.phase))

abbrev pub at_line : ℕ → World → World
at_line number w = record w { kept = record w.kept { line = number } }

-- what the line of a number performs
abbrev pub numbered : ℕ → Line → Act
numbered number line = seq (begin_line number) (act_of line)

-- ---- texts

-- what a text performs that isn't refused: nothing, where it has no word or is a comment
abbrev pub deed_read : Result (Option Line) TextFault → World → Act
deed_read (Ok (Some line)) w = deed_at line w w.kept.phase
deed_read _ w = nothing

-- what a text without its line ending performs, as the next line
abbrev pub performed : List ℕ → Act
performed text =
    seq (change (λ kept. record kept { line = line_after kept.line }))
    (look (λ w. unless_refused (first_refusal text w) (deed_read (line_in text) w)))

-- what lines perform
abbrev pub performed_all : List (List ℕ) → Act
performed_all texts = each performed texts

-- a trace doesn't end inside a race: what is refused is the line that isn't there
abbrev pub close_at : Phase → Act
close_at Apart = nothing
close_at _ = seq (change (λ kept. record kept { line = line_after kept.line })) (refuse NoEnd)

abbrev pub close : Act
close = look (λ w. close_at w.kept.phase)

-- what lines perform that are all of a trace
abbrev pub performed_whole : List (List ℕ) → Act
performed_whole texts = seq (performed_all texts) close
