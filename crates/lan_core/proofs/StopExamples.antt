-- What stops an event, worked by hand at small runs: no draws left, a limit, a draw that repeats,
-- foreign octets that are forged. Ciphers stay closed.
use Rattle.std.proofs.Common.{◌≡◌, ◌≢◌, ◌∙◌, ◌≤◌, ℕ, zero, suc, true, false, cond, List, [], ◌∷◌, ◌++◌, length, map}
use Rattle.std.proofs.Common.{Option, Some, None, refl, ap, arith}
use Rattle.std.specs.Prelude.{◌==◌, replicate, nat_lt, sum, is_some}
use Rattle.std.proofs.lemmas.List.{length-replicate}
use Rattle.std.proofs.lemmas.Bool.{ne_eqb}
use Rattle.lan_base.specs.declared.association_number.AssociationNumber.TheVariants.{An0}
use Rattle.lan_base.specs.declared.suite.Suite.TheVariants.{GcmAes128, GcmAes256}
use Rattle.peer_lists.specs.Acceptance.{refusal, accepted, outcome}
use Rattle.peer_lists.specs.Peers.{says, hopes, known}
use Rattle.sak_exchange.specs.Held.{received, latest, old, transmitting}
use Rattle.gcm_frames.specs.Tags.{tag_fields}
use Rattle.mkpdu_codec.specs.Reading.{reading, parts_at}
use Rattle.mka_station.specs.Lives.{peers_of, keys_of, elected}
use Rattle.mka_station.specs.Views.{view}
use Rattle.mka_station.specs.Hearing.{judged, right}
use Rattle.mka_station.specs.Restart.{ending}
use Rattle.mka_station.specs.Tick.{tick_turn}
use Rattle.lan_core.specs.declared.event.Event.{Event}
use Rattle.lan_core.specs.declared.event.Event.TheVariants as events
use Rattle.lan_core.specs.declared.fact.Fact.{Fact}
use Rattle.lan_core.specs.declared.fact.Fact.TheVariants as facts
use Rattle.lan_core.specs.declared.stop.Stop.TheVariants.{DrawsSpent, Limit, RepeatedDraw, Forged}
use Rattle.lan_core.specs.declared.stop.Which.TheVariants.{Frames, Octets, Ticks, Keys, Stations}
use Rattle.lan_core.specs.Run.{Run, Happening, happened, Profile, started, stations}
use Rattle.lan_core.specs.Ledgers.{gather, collect, Frame, air, framed, births, install_of, installs, installs_at}
use Rattle.lan_core.specs.Lives.{life, receiving, setup_of}
use Rattle.lan_core.specs.Claims.{next, claimed}
use Rattle.lan_core.specs.Expected.{expected}
use Rattle.lan_base.specs.Ranges.{most_ticks, most_frames}
use Rattle.lan_core.specs.Order.{ticks, ticks_of, most_octets, most_installs}
use Rattle.lan_core.specs.Fresh.{drawn_saks, repeats}
use Rattle.lan_core.specs.Stops.{draws_in, draws_needed, is_spent, mi_number, sak_number, passed}
use Rattle.lan_core.specs.Stops.{stop_of_draw, stop_of_forgery, stop_at, first_stop}
use Rattle.lan_core.specs.inside.Limits.{passed_by}
use Rattle.lan_core.proofs.LimitsPassed.{none-over, over-at, passed-is}
use Rattle.lan_core.proofs.Examples.{headed, id, mi, play, sak, sci, settings, two}

opens : ℕ
unfolding refusal accepted outcome says hopes known received latest old transmitting peers_of keys_of elected view judged tick_turn ending stations air births installs life receiving next claimed expected drawn_saks reading parts_at tag_fields draws_in mi_number sak_number first_stop
opens = 0

-- ---- draws that are spent

-- supplies that give nothing, one draw, and the same one again and again
abbrev empty : ℕ → Option (List ℕ)
empty place = None

abbrev draw : ℕ → List ℕ
draw n = replicate 15 0 ++ n ∷ []

abbrev once : ℕ → ℕ → Option (List ℕ)
once n place = cond (place == 0) (Some (draw n)) None

abbrev always : ℕ → ℕ → Option (List ℕ)
always n place = Some (draw n)

abbrev third : Event
third = events.Start (67 ∷ []) (sci 12) 16

start_without_draw : first_stop settings [] (play two) third empty ≡ Some DrawsSpent
unfolding opens play
start_without_draw = refl

restart_without_draw : first_stop settings [] (play two) (events.Restart 1) empty ≡ Some DrawsSpent
unfolding opens play
restart_without_draw = refl

start_with_one : first_stop settings [] (play two) third (once 3) ≡ None
unfolding opens play
start_with_one = refl

-- what draws nothing needs none
foreign_without_draw : first_stop settings [] (play two) (events.Inject 0 (headed 0)) empty ≡ None
unfolding opens play
foreign_without_draw = refl

tick_without_key : draws_needed settings (play two) (events.Tick 0 0) ≡ 0
unfolding opens play
tick_without_key = refl

-- a key of 256 bits takes two
two_of_one : is_spent 2 (once 3) ≡ true
two_of_one = refl

one_of_one : is_spent 1 (once 3) ≡ false
one_of_one = refl

-- ---- draws that repeat

-- of which draw, and that it is the third
first_again : first_stop settings [] (play two) third (always 1) ≡ Some (RepeatedDraw 1 3)
unfolding opens play
first_again = refl

second_again :
    first_stop settings [] (play two) (events.Restart 0) (always 2) ≡ Some (RepeatedDraw 2 3)
unfolding opens play
second_again = refl

-- an identifier is the last twelve octets of its draw
other_head :
    first_stop settings [] (play two) third (λ place. Some (1 ∷ replicate 14 0 ++ 1 ∷ []))
    ≡ Some (RepeatedDraw 1 3)
unfolding opens play
other_head = refl

-- a tick at which the first station makes a key
abbrev makes : Happening
makes = happened (events.Tick 0 0) (facts.Ticked 0 3 0 ∷ facts.Installed 0 (id 1) An0 1 sak ∷ [])

abbrev keyed : Run
keyed = makes ∷ play two

key_again : stop_of_draw GcmAes128 keyed makes ≡ Some (RepeatedDraw 3 4)
unfolding opens play
key_again = refl

-- of two draws, the number of the first
wide_again : stop_of_draw GcmAes256 keyed makes ≡ Some (RepeatedDraw 3 5)
unfolding opens play
wide_again = refl

-- an identifier that is drawn as a key was repeats nothing
as_a_key :
    stop_of_draw GcmAes128 keyed (happened (events.Restart 1) (facts.Life 1 (mi 3) ∷ [])) ≡ None
unfolding opens play
as_a_key = refl

-- nobody drew a key that is heard
heard_key : stop_of_draw GcmAes128 keyed (happened (events.Deliver 1 1) makes.facts) ≡ None
unfolding opens play
heard_key = refl

-- ---- stations

-- so many stations that started
abbrev crowd : ℕ → Run
crowd zero = []
crowd (suc n) =
    happened (events.Start (n ∷ []) (sci n) 16) (facts.Life n (mi n) ∷ []) ∷ crowd n

abbrev newcomer : Event
newcomer = events.Start (200 ∷ []) (sci 200) 16

sixteenth : first_stop settings [] (crowd 15) newcomer (always 200) ≡ None
unfolding opens
sixteenth = refl

seventeenth : first_stop settings [] (crowd 16) newcomer (always 200) ≡ Some (Limit Stations)
unfolding opens
seventeenth = refl

-- a limit stops before a draw that repeats, and draws that are spent before a limit
seventeenth_again : first_stop settings [] (crowd 16) newcomer (always 1) ≡ Some (Limit Stations)
unfolding opens
seventeenth_again = refl

seventeenth_without_draw : first_stop settings [] (crowd 16) newcomer empty ≡ Some DrawsSpent
unfolding opens
seventeenth_without_draw = refl

-- ---- the ledgers of one event again and again

none_told : {A : Type 0} (read : Fact → Option A) (x : Happening)
    → ((xs : List A) → gather read x.facts xs ≡ xs) → (n : ℕ) → collect read (replicate n x) ≡ []
none_told read x none zero = refl
none_told read x none (suc n) = rw (none_told read x none n) (none [])

each_told : {A : Type 0} (read : Fact → Option A) (a : A) (x : Happening)
    → ((xs : List A) → gather read x.facts xs ≡ a ∷ xs) → (n : ℕ)
    → collect read (replicate n x) ≡ replicate n a
each_told read a x one zero = refl
each_told read a x one (suc n) = rw (each_told read a x one n) (one (replicate n a))

none_starts : (x : Happening) → started x.event ≡ [] → (n : ℕ) → stations (replicate n x) ≡ []
unfolding stations
none_starts x none zero = refl
none_starts x none (suc n) = rw (none_starts x none n, none) refl

none_ticks : (x : Happening) → ticks_of x.event ≡ 0 → (n : ℕ) → ticks (replicate n x) ≡ 0
none_ticks x none zero = refl
none_ticks x none (suc n) = let before = none_ticks x none n in omega (arith, none, before)

each_ticks : (x : Happening) → ticks_of x.event ≡ 1 → (n : ℕ) → ticks (replicate n x) ≡ n
each_ticks x one zero = refl
each_ticks x one (suc n) = let before = each_ticks x one n in omega (arith, one, before)

no_octets : (f : Frame) → length f.octets ≡ 0 → (n : ℕ)
    → sum (map (λ f. length f.octets) (replicate n f)) ≡ 0
no_octets f none zero = refl
no_octets f none (suc n) = rw (none, no_octets f none n) refl

-- ---- limits, at any count

-- emissions of empty frames
abbrev emission : Happening
emission = happened events.Emit (facts.Framed 1 0 true [] ∷ [])

so_many_frames : (n : ℕ)
    → passed (replicate n emission) ≡ cond (nat_lt most_frames n) (Some Frames) None
unfolding air installs
so_many_frames n =
    let frame : Frame = record { number = 1; station = 0; sec = true; octets = [] } in
    let on_air : air (replicate n emission) ≡ replicate n frame =
    each_told framed frame emission (λ xs. refl) n in
    let keyless : installs (replicate n emission) ≡ [] =
    none_told install_of emission (λ xs. refl) n in
    passed-is (replicate n emission) n 0 0 0 0 (rw on_air (length-replicate n frame))
    (rw on_air (no_octets frame refl n)) (none_ticks emission refl n) (rw keyless refl)
    (ap (λ ps. length ps) (none_starts emission refl n))

-- a frame of so many octets
so_many_octets : (n : ℕ)
    → passed (happened events.Emit (facts.Framed 1 0 true (replicate n 0) ∷ []) ∷ [])
    ≡ cond (nat_lt most_octets n) (Some Octets) None
unfolding air installs stations
so_many_octets n =
    let octets : List ℕ = replicate n 0 in
    let long : length octets ≡ n = length-replicate {A = ℕ} n 0 in
    passed-is (happened events.Emit (facts.Framed 1 0 true (replicate n 0) ∷ []) ∷ []) 1 n 0 0 0
    refl (omega (arith, long)) refl refl refl

abbrev tick : Happening
tick = happened (events.Tick 0 0) []

so_many_ticks : (n : ℕ)
    → passed (replicate n tick) ≡ cond (nat_lt most_ticks n) (Some Ticks) None
unfolding air installs
so_many_ticks n =
    let silent : air (replicate n tick) ≡ [] = none_told framed tick (λ xs. refl) n in
    let keyless : installs (replicate n tick) ≡ [] = none_told install_of tick (λ xs. refl) n in
    passed-is (replicate n tick) 0 0 n 0 0 (rw silent refl) (rw silent refl)
    (each_ticks tick refl n) (rw keyless refl) (ap (λ ps. length ps) (none_starts tick refl n))

-- a key is installed at a station
abbrev install : ℕ → Happening
install s = happened (events.Deliver 1 s) (facts.Installed s (id 1) An0 1 sak ∷ [])

-- two stations install in turn
abbrev in_turn : ℕ → Run
in_turn zero = []
in_turn (suc n) = install 0 ∷ install 1 ∷ in_turn n

turns_silent : (n : ℕ) → air (in_turn n) ≡ []
unfolding air
turns_silent zero = refl
turns_silent (suc n) = turns_silent n

turns_timeless : (n : ℕ) → ticks (in_turn n) ≡ 0
turns_timeless zero = refl
turns_timeless (suc n) = rw (turns_timeless n) refl

turns_closed : (n : ℕ) → stations (in_turn n) ≡ []
unfolding stations
turns_closed zero = refl
turns_closed (suc n) = rw (turns_closed n) refl

turns_first : (n : ℕ) → length (installs_at 0 (in_turn n)) ≡ n
unfolding installs
turns_first zero = refl
turns_first (suc n) = let before = turns_first n in omega (arith, before)

turns_second : (n : ℕ) → length (installs_at 1 (in_turn n)) ≡ n
unfolding installs
turns_second zero = refl
turns_second (suc n) = let before = turns_second n in omega (arith, before)

turns_others : (t : ℕ) → (0 == t) ≡ false → (1 == t) ≡ false → (n : ℕ)
    → installs_at t (in_turn n) ≡ []
unfolding installs
turns_others t not_first not_second zero = refl
turns_others t not_first not_second (suc n) =
    rw (not_first, not_second) (turns_others t not_first not_second n)

turns_each : (t n : ℕ) → length (installs_at t (in_turn n)) ≤ n
turns_each zero n = omega (arith, turns_first n)
turns_each (suc zero) n = omega (arith, turns_second n)
turns_each (suc (suc t)) n =
    let not_first = ne_eqb 0 (suc (suc t)) (λ same. omega (arith, same)) in
    let not_second = ne_eqb 1 (suc (suc t)) (λ same. omega (arith, same)) in
    let none = turns_others (suc (suc t)) not_first not_second n in
    let counted = ap (λ is. length is) none in omega (arith, counted)

-- as many at each station as it may: together they are twice as many, and no limit is passed
few_at_each : (n : ℕ) → n ≤ most_installs → passed (in_turn n) ≡ None
few_at_each n few =
    passed-is (in_turn n) 0 0 0 0 0 (rw (turns_silent n) refl) (rw (turns_silent n) refl)
    (turns_timeless n)
    (none-over (installs (in_turn n)) (λ t. let each = turns_each t n in omega (arith, each, few)))
    (ap (λ ps. length ps) (turns_closed n))

-- one more at one of them passes it
abbrev alone : ℕ → Run
alone n = replicate n (install 0)

alone_silent : (n : ℕ) → air (alone n) ≡ []
unfolding air
alone_silent n = none_told framed (install 0) (λ xs. refl) n

alone_counts : (n : ℕ) → length (installs_at 0 (alone n)) ≡ n
unfolding installs
alone_counts zero = refl
alone_counts (suc n) = let before = alone_counts n in omega (arith, before)

alone_others : (t : ℕ) → (0 == t) ≡ false → (n : ℕ) → installs_at t (alone n) ≡ []
unfolding installs
alone_others t other zero = refl
alone_others t other (suc n) = rw other (alone_others t other n)

alone_each : (t : ℕ) → t ≢ 0 → (n : ℕ) → length (installs_at t (alone n)) ≤ most_installs
alone_each t other n =
    let none = alone_others t (ne_eqb 0 t (λ same. other (cc same))) n in
    let counted = ap (λ is. length is) none in omega (arith, counted)

so_many_installs : (n : ℕ)
    → passed (alone n) ≡ cond (nat_lt most_installs n) (Some Keys) None
so_many_installs n =
    let keys = over-at (installs (alone n)) 0 (λ t other. alone_each t other n) in
    passed-is (alone n) 0 0 0 n 0 (rw (alone_silent n) refl) (rw (alone_silent n) refl)
    (none_ticks (install 0) refl n) (keys ∙ ap (λ count. nat_lt most_installs count) (alone_counts n))
    (ap (λ ps. length ps) (none_starts (install 0) refl n))

-- the first in the order of the table
all_at_once : passed_by 200001 67108865 1000001 4097 17 ≡ Some Frames
all_at_once = refl

ticks_before_keys : passed_by 200000 67108864 1000001 4097 17 ≡ Some Ticks
ticks_before_keys = refl

-- ---- foreign octets

abbrev alice : Profile
alice = record { name = 65 ∷ []; sci = sci 10; priority = 16 }

abbrev started_alone : Run
started_alone = happened (events.Start (65 ∷ []) (sci 10) 16) (facts.Life 0 (mi 1) ∷ []) ∷ []

-- octets that are right for the station are forged where nothing is on the air
forged : (octets : List ℕ) → is_some (right (setup_of settings alice) octets) ≡ true
    → stop_at settings started_alone (events.Inject 0 octets) [] ≡ Some (Forged 0)
unfolding stations air installs draws_in mi_number sak_number
forged octets are = rw are refl

-- a frame, on the air
abbrev on_air : List ℕ → Frame
on_air octets = record { number = 1; station = 0; sec = false; octets = octets }

abbrev shown : List ℕ → Run
shown frame = happened events.Emit (facts.Framed 1 0 false frame ∷ []) ∷ started_alone

-- those that repeat a frame are not
repeated : (octets frame : List ℕ) → is_some (right (setup_of settings alice) octets) ≡ true
    → repeats octets (on_air frame) ≡ true
    → stop_of_forgery settings (shown frame) (events.Inject 0 octets) ≡ None
unfolding stations air
repeated octets frame are known = rw (are, known) refl
