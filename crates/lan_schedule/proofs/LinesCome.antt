-- What each line performs can be performed.
use Rattle.std.proofs.Common.{◌≡◌, ◌<◌, ◌≤◌, ◌≢◌, ℕ, ◌+◌, ◌==◌, Bool, true, false}
use Rattle.std.proofs.Common.{List, [], ◌∷◌, ◌++◌, length, Option, Some, None, ◌⊎◌, inl, inr, refl}
use Rattle.std.proofs.Common.{sym, ap, ◌∙◌, subst, length-append, arith}
use Rattle.std.specs.Prelude.{cond, map, not, ◌&&◌, nat_le, nat_lt, is_some}
use Rattle.std.specs.List.{find}
use Rattle.std.proofs.lemmas.List.{length-map}
use Rattle.lan_base.specs.declared.frame.UserFrame.{UserFrame}
use Rattle.sak_exchange.specs.declared.held_key.Key.{Key}
use Rattle.lan_core.specs.declared.event.Event.TheVariants as events
use Rattle.lan_core.specs.declared.settings.Settings.{Settings}
use Rattle.lan_core.specs.Run.{Run, Profile, stations}
use Rattle.lan_core.specs.Ledgers.{Frame, air, emitted, births, AreNumbered}
use Rattle.lan_core.specs.Claims.{claimed, user_at, next}
use Rattle.lan_core.specs.Expected.{last_number}
use Rattle.lan_core.specs.Fresh.{drawn_saks}
use Rattle.lan_core.specs.Order.{IsSendable}
use Rattle.lan_core.specs.Stops.{IsDemanded}
use Rattle.lan_core.specs.Types.{IsUserFrame}
use Rattle.lan_core.specs.Unstopped.{AreDraws}
use Rattle.lan_core.proofs.Public.{legal-more}
use Rattle.trace_acts.specs.Supply.{draw_at}
use Rattle.trace_acts.specs.Settings.{rule_of}
use Rattle.trace_acts.proofs.Public.{not-false, or-none}
use Rattle.trace_acts.proofs.Public.{user-at-end, where-none}
use Rattle.trace_acts.specs.declared.halt.Kind.{Kind}
use Rattle.trace_acts.specs.declared.halt.Kind.TheVariants as kinds
use Rattle.trace_acts.specs.Names.{names_of, scis_of}
use Rattle.trace_acts.specs.Kinds.{where_, is_allowed}
use Rattle.trace_text.specs.declared.line.Line.{Line}
use Rattle.lan_schedule.specs.declared.frames.Put.{Put}
use Rattle.lan_schedule.specs.World.{World, Kept, count, settings}
use Rattle.lan_schedule.specs.World.{is_racing}
use Rattle.lan_schedule.specs.Races.{Excess, Phase, number_in}
use Rattle.lan_schedule.specs.Numbers.{in_range, stands, number_claimed}
use Rattle.lan_core.specs.Unstopped.{next_under}
use Rattle.lan_schedule.specs.Acts.{Act, happen, seq, unless, perform}
use Rattle.lan_schedule.specs.Deeds.{deed_of}
use Rattle.lan_schedule.specs.Kinds.{is_number, no_frame, no_station, wrong_word}
use Rattle.lan_schedule.specs.Lines.{add_user, send, unless_exceeded}
use Rattle.lan_schedule.specs.Lines.{unless_refused}
use Rattle.lan_schedule.specs.inside.Phased.{refusal_apart}
use Rattle.lan_schedule.specs.Sound.{IsTidy, numbers_of, IsNeverSpent, IsSoundIn}
use Rattle.lan_schedule.specs.inside.Comes.{Comes, HasRoom, named}
use Rattle.lan_core.specs.Lives.{transmitting_at}
use Rattle.lan_core.specs.Stops.{MayCome}
use Rattle.lan_schedule.proofs.Awaiting.{waits-then}
use Rattle.lan_schedule.proofs.Still.{stays}
use Rattle.trace_acts.proofs.Public.{is-going}
use Rattle.lan_schedule.proofs.Coming.{IsOnAir, one-at-least}

-- ---- what a line is not refused for

pub and-true : (a b : Bool) → (a && b) ≡ true → (a ≡ true) × (b ≡ true)
and-true true b e = (refl, e)
and-true false b e = absurd (cc e)

-- the words of a line are right
abbrev pub wrong_in : Line → World → Option Kind
wrong_in line w =
    wrong_word (deed_of line w) (names_of w.run) (scis_of w.run) (length w.kept.frames)

-- a line that isn't refused outside a race is allowed, and its words are right
pub record IsRight (line : Line) (w : World) : Type 0 where
  pub allowed : is_allowed line w.kept.begun w.kept.chosen ≡ true
  pub words : wrong_in line w ≡ None

pub is-right : (line : Line) (w : World) → refusal_apart line w ≡ None → IsRight line w
is-right line w e =
    let allowed = is_allowed line w.kept.begun w.kept.chosen in
    let both = or-none (where_ (not allowed) kinds.Order) (wrong_in line w) e in
    record {
      allowed = not-false allowed (where-none (not allowed) kinds.Order both.0);
      words =
          both.1;
    }

-- ---- names and frames

pub known : (s : ℕ) (w : World) → no_station s (names_of w.run) ≡ None → s < count w
known s w e =
    let there : nat_lt s (length (names_of w.run)) ≡ true =
    not-false (nat_lt s (length (names_of w.run))) (where-none _ kinds.NameUnknown e) in
    let lt : s < length (names_of w.run) = grind (arith, there) in
    let same : length (names_of w.run)
    ≡ count w = length-map (stations w.run) (λ (p : Profile). p.name) in
    omega arith

pub numbers-length : (xs : List Frame) → length (numbers_of xs) ≡ length xs
numbers-length [] = refl
numbers-length (f ∷ earlier) = let e = numbers-length earlier in
    length-append (numbers_of earlier) (f.number ∷ []) ∙ omega arith

differs : (a b : ℕ) → (a == b) ≡ false → a ≢ b
differs a b e = grind arith

found-one : (number : ℕ) (f : Frame) (earlier : List Frame) (b : Bool) → (f.number == number) ≡ b
    → f.number ≡ length earlier + 1 → number ≤ length (f ∷ earlier)
    → (number ≤ length earlier → is_some (find (λ (g : Frame). g.number == number) earlier) ≡ true)
    → is_some (cond b (Some f) (find (λ (g : Frame). g.number == number) earlier)) ≡ true
found-one number f earlier true e top high lower = refl
found-one number f earlier false e top high lower = let never = differs f.number number e in
    lower (omega arith)

found-by : (number : ℕ) (xs : List Frame) → AreNumbered xs → 1 ≤ number → number ≤ length xs
    → is_some (find (λ (f : Frame). f.number == number) xs) ≡ true
found-by number [] h low high = absurd (omega arith)
found-by number (f ∷ earlier) h low high =
    found-one number f earlier (f.number == number) refl h.0 high
    (λ lower. found-by number earlier h.1 low lower)

le-true : (a b : ℕ) → nat_le a b ≡ true → a ≤ b
le-true a b e = grind arith

-- a number that the air has
pub numbered-in : (number count : ℕ) → no_frame number count ≡ None → (1 ≤ number) × (number ≤ count)
numbered-in number count e =
    let both = and-true (nat_le 1 number) (nat_le number count)
    (not-false (is_number number count) (where-none _ kinds.FrameUnknown e)) in
    (le-true 1 number both.0, le-true number count both.1)

pub within-air : (number : ℕ) (w : World) → IsTidy w → 1 ≤ number → number ≤ length w.kept.frames
    → IsOnAir w.run number
within-air number w tidy low high =
    let same : length w.kept.frames ≡ length (air w.run) =
    sym (length-map w.kept.frames (λ (put : Put). put.number))
    ∙ ap (λ (l : List ℕ). length l) tidy.frames ∙ numbers-length (air w.run) in
    found-by number (air w.run) tidy.numbered low (omega (arith, high))

pub on-air : (number : ℕ) (w : World) → IsTidy w → no_frame number (length w.kept.frames) ≡ None
    → IsOnAir w.run number
on-air number w tidy e =
    let in_ = numbered-in number (length w.kept.frames) e in
    within-air number w tidy in_.0 in_.1

-- ---- tidy worlds

pub sound-empty : (racing : Bool) (settings : Settings) (users : List UserFrame)
    → IsSoundIn racing settings users []
unfolding births drawn_saks
sound-empty racing settings users = record {
  legal = record { stepped = tt; excused = tt };
  fresh = record { mis = tt; saks = tt };
  unforged = tt;
  thrifty = λ e. tt;
}

-- before the first station whatever is kept leaves a world tidy
pub tidy-unbegun : (w v : World) → IsTidy w → w.run ≡ [] → v.run ≡ w.run
    → v.kept.frames ≡ w.kept.frames → v.kept.races ≡ w.kept.races
    → AreDraws (draw_at (rule_of v.kept.chosen)) → IsTidy v
unfolding air claimed next
tidy-unbegun w v tidy empty same frames races draws =
    let none : v.run ≡ [] = same ∙ empty in
    record {
      sound = subst (λ (r : Run). IsSoundIn (is_racing v.kept.phase) (settings v) v.kept.users r)
          (sym none) (sound-empty (is_racing v.kept.phase) (settings v) v.kept.users);
      within = rw same tidy.within;
      frames = ap (λ l. map (λ put. put.number) l) frames ∙ tidy.frames
          ∙ ap (λ (r : Run). numbers_of (air r)) (sym same);
      numbered = rw same tidy.numbered;
      in_turn = subst (λ (r : Run). length (emitted r) ≤ length (claimed (settings v) r)) (sym none)
          (omega arith);
      few = λ e s epoch.
          subst (λ (r : Run). next (settings v) s epoch r ≤ length v.kept.users + 1) (sym none)
          (omega arith);
      unspent = subst IsNeverSpent (sym none) tt;
      waits = λ e. none;
      draws = draws;
      dealt = rw races tidy.dealt;
    }

-- what is kept and no world looks at leaves a world tidy
pub tidy-same : (w : World) (kept : Kept) → IsTidy w → kept.chosen ≡ w.kept.chosen
    → kept.users ≡ w.kept.users
    → kept.frames ≡ w.kept.frames → kept.phase ≡ w.kept.phase → kept.races ≡ w.kept.races
    → (kept.begun ≡ false → w.kept.begun ≡ false)
    → (kept.raced ≡ false → w.kept.raced ≡ false)
    → IsTidy (record w { kept = kept })
tidy-same w kept tidy chosen users frames phase races begun raced = record {
  sound = rw (chosen, users, phase) tidy.sound;
  within = tidy.within;
  frames = ap (λ (l : List Put). map (λ (put : Put). put.number) l) frames ∙ tidy.frames;
  numbered = tidy.numbered;
  in_turn = rw chosen tidy.in_turn;
  few = λ e. rw (chosen, users) (tidy.few (raced e));
  unspent = tidy.unspent;
  waits = λ e. tidy.waits (begun e);
  draws = rw chosen tidy.draws;
  dealt = rw races tidy.dealt;
}

-- the lines stand elsewhere, and are performed beside workers where they were
pub tidy-entered : (w : World) (phase : Phase) → IsTidy w
    → is_racing phase ≡ is_racing w.kept.phase
    → IsTidy (record w { kept = record w.kept { phase = phase } })
tidy-entered w phase tidy same = record {
  sound = subst (λ (racing : Bool). IsSoundIn racing (settings w) w.kept.users w.run) (sym same)
      tidy.sound;
  within = tidy.within;
  frames = tidy.frames;
  numbered = tidy.numbered;
  in_turn = tidy.in_turn;
  few = tidy.few;
  unspent = tidy.unspent;
  waits = tidy.waits;
  draws = tidy.draws;
  dealt = tidy.dealt;
}

-- ---- user data

-- one user frame more leaves a world tidy
tidy-user : (user : UserFrame) (w : World) → IsTidy w
    → IsTidy (record w { kept = record w.kept { users = w.kept.users ++ user ∷ [] } })
tidy-user user w tidy = record {
  sound = record {
    legal = legal-more (settings w) w.kept.users (user ∷ []) w.run tidy.sound.legal;
    fresh = tidy.sound.fresh;
    unforged = tidy.sound.unforged;
    thrifty = tidy.sound.thrifty;
  };
  within = tidy.within;
  frames = tidy.frames;
  numbered = tidy.numbered;
  in_turn = tidy.in_turn;
  few = λ e s epoch.
      let before = tidy.few e s epoch in
      let longer = length-append w.kept.users (user ∷ []) in omega (arith, before, longer);
  unspent = tidy.unspent;
  waits = tidy.waits;
  draws = tidy.draws;
  dealt = tidy.dealt;
}

pub lt-true : (a b : ℕ) → nat_lt a b ≡ true → a < b
lt-true a b e = grind arith

pub lt-false : (a b : ℕ) → nat_lt a b ≡ false → b ≤ a
lt-false a b e = grind arith

by-range : (n : ℕ) (user : Option UserFrame) (b : Bool) → nat_lt last_number n ≡ b → 1 ≤ n
    → ((cond b 0 n ≡ 0) × (last_number < n))
    ⊎ ((1 ≤ cond b 0 n) × (n ≤ cond b 0 n) × (cond b 0 n ≤ last_number) × (user ≡ user))
by-range n user true e one = inl (refl, lt-true last_number n e)
by-range n user false e one =
    inr (one, omega arith, lt-false last_number n e, refl)

-- a claim of the next number comes with its user frame, or no number is left
demanded : (settings : Settings) (s : ℕ) (r : Run) (user : Option UserFrame) (k : Option Key)
    → IsDemanded settings s r (in_range (next_under settings s r k)) user user k
demanded settings s r user None = refl
demanded settings s r user (Some k) =
    by-range (next settings s k.epoch r) user (nat_lt last_number (next settings s k.epoch r)) refl
    (one-at-least settings s k.epoch r)

-- a number that stands comes with its user frame
fits-demanded : (settings : Settings) (s : ℕ) (r : Run) (user : Option UserFrame) (k : Option Key)
    (raced b : Bool) (number : ℕ)
    → (stands raced (next_under settings s r k) number && nat_le number last_number) ≡ b
    → IsDemanded settings s r (cond b number (in_range (next_under settings s r k))) user user k
fits-demanded settings s r user k raced false number e = demanded settings s r user k
fits-demanded settings s r user k false true number e = absurd (cc e)
fits-demanded settings s r user None true true number e = absurd (cc e)
fits-demanded settings s r user (Some k) true true number e =
    let next : next settings s k.epoch r ≤ number = grind arith in
    let low : number ≤ last_number = grind arith in
    let one = one-at-least settings s k.epoch r in
    inr (omega (arith, one, next), next, low, refl)

unless-comes : (b : Bool) (act : Act) (w : World) → (b ≡ false → Comes act w)
    → Comes (unless b act) w
unless-comes true act w h = tt
unless-comes false act w h = h refl

claim-comes : (s : ℕ) (user : UserFrame) (w : World)
    → IsTidy (record w { kept = record w.kept { users = w.kept.users ++ user ∷ [] } })
    → (w.kept.raced ≡ false
    → (t epoch : ℕ) → next (settings w) t epoch w.run ≤ length w.kept.users + 1)
    → IsUserFrame user → is_racing w.kept.phase ≡ false → s < count w
    → Comes (send s) (record w { kept = record w.kept { users = w.kept.users ++ user ∷ [] } })
claim-comes s user w tidy few is_user apart there =
    let v : World = record w { kept = record w.kept { users = w.kept.users ++ user ∷ [] } } in
    let n = length v.kept.users in
    let pn = number_claimed v s in
    let sendable : IsSendable (user_at v.kept.users n) =
    subst (λ (u : Option UserFrame). IsSendable u) (sym (user-at-end w.kept.users user))
    is_user in
    let may : MayCome (settings v) v.kept.users v.run (named v (events.Claim s n pn))
    (events.Claim s n pn) = (
      there,
      sendable,
      fits-demanded (settings v) s v.run (user_at v.kept.users n)
          (transmitting_at (settings v) s v.run) v.kept.raced _ (number_in v.kept.chances)
          refl,
    ) in
    let longer : n ≡ length w.kept.users + 1 = length-append w.kept.users (user ∷ []) in
    let room : HasRoom v n = λ calm. (
      omega arith,
      λ t epoch. let before = few calm t epoch in omega (arith, before, longer),
    ) in (
      (may, (refl, room, apart)),
      is-going (perform (happen (events.Claim s n pn)) v)
          (λ u. IsTidy u → Comes (unless (pn == 0) (happen events.Emit)) u)
          (λ u e tidy_u. unless-comes (pn == 0) (happen events.Emit) u (λ some. (
            waits-then v u s n pn tidy e (may, (refl, room, apart)) some,
            ap is_racing (stays (happen (events.Claim s n pn)) v u tt e) ∙ apart,
          ))),
    )

pub send-comes : (s : ℕ) (user : UserFrame) (w : World) → IsTidy w → IsUserFrame user
    → is_racing w.kept.phase ≡ false → s < count w → Comes (seq (add_user user) (send s)) w
send-comes s user w tidy is_user apart there =
    (tidy-user user w tidy, λ tidy_v. claim-comes s user w tidy_v tidy.few is_user apart there)

-- ---- lines

pub refused-comes : (o : Option Kind) (act : Act) (w : World) → (o ≡ None → Comes act w)
    → Comes (unless_refused o act) w
refused-comes None act w h = h refl
refused-comes (Some kind) act w h = tt

pub exceeded-comes : (o : Option Excess) (act : Act) (w : World) → Comes act w
    → Comes (unless_exceeded o act) w
exceeded-comes None act w h = h
exceeded-comes (Some excess) act w h = tt
