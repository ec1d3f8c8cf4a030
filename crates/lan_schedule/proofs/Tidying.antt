-- Worlds stay tidy.
use Rattle.std.proofs.Common.{◌≡◌, ◌≤◌, ◌<◌, ◌+◌, ◌^◌, ℕ, Bool, true, false, ◌⊎◌, inl, inr, subst}
use Rattle.std.proofs.Common.{List, [], ◌∷◌, ◌++◌, length, Option, Some, None, refl, sym, ap, ◌∙◌}
use Rattle.std.proofs.Common.{append_assoc, append-nil, arith}
use Rattle.std.specs.Prelude.{map, cond, nat_lt}
use Rattle.std.proofs.lemmas.List.{map-append}
use Rattle.sak_exchange.specs.declared.held_key.Key.{Key}
use Rattle.lan_core.specs.declared.event.Event.{Event}
use Rattle.lan_core.specs.declared.event.Event.TheVariants as events
use Rattle.lan_core.specs.declared.fact.Fact.{Fact}
use Rattle.lan_core.specs.declared.fact.Fact.TheVariants as facts
use Rattle.lan_core.specs.declared.settings.Settings.{Settings}
use Rattle.lan_core.specs.Run.{Run, happened}
use Rattle.lan_core.specs.Claims.{next}
use Rattle.lan_core.specs.Lives.{transmitting_at}
use Rattle.lan_core.specs.Ledgers.{Frame, air, framed, gather}
use Rattle.lan_core.specs.Expected.{expected, drawn_from, last_number}
use Rattle.lan_core.specs.Types.{IsTyped, IsSetting}
use Rattle.lan_core.specs.Legal.{IsLegal, IsThrifty}
use Rattle.lan_core.specs.Unstopped.{IsUnstopped, LeavesNoneOut, next_under}
use Rattle.lan_core.proofs.Public.{is-step, legal, fresh, unforged, stays-thrifty, air-numbered}
use Rattle.lan_core.specs.Stops.{first_stop}
use Rattle.group_safety.specs.Accounts.{IsExact as IsExactIn, claims_of}
use Rattle.group_safety.proofs.Public.{few, kind}
use Rattle.lan_schedule.specs.declared.frames.Put.{Put}
use Rattle.lan_schedule.specs.World.{World, settings, puts, is_racing}
use Rattle.lan_schedule.specs.Answers.{supply}
use Rattle.lan_schedule.specs.Acts.{happen, world_after}
use Rattle.lan_schedule.specs.Sound.{IsTidy, IsSoundIn, numbers_of}
use Rattle.lan_schedule.specs.inside.Comes.{Comes, IsExact, named}
use Rattle.lan_schedule.specs.inside.Staged.{FindsLeft}
use Rattle.lan_schedule.specs.Numbers.{shown_next, in_range}
use Rattle.lan_schedule.proofs.Calm.{calm-shown, calm-claimed}
use Rattle.lan_schedule.proofs.Drawing.{supply-draws}
use Rattle.lan_schedule.proofs.Unspent.{facts-unspent, finds-left}
use Rattle.next_numbers.proofs.Public.{stays-in-turn}

-- what facts put on the air has the numbers of its frames
numbers-gather : (rounds : ℕ) (shown : List Fact) (xs : List Frame)
    → numbers_of (gather framed shown xs) ≡ numbers_of xs
    ++ map (λ (put : Put). put.number) (puts rounds shown)
numbers-gather rounds [] xs = sym (append-nil (numbers_of xs))
numbers-gather rounds (facts.Framed number station sec octets ∷ others) xs =
    numbers-gather rounds others (record {
      number = number;
      station = station;
      sec = sec;
      octets =
          octets;
    } ∷ xs)
    ∙ append_assoc (numbers_of xs) (number ∷ [])
    (map (λ (put : Put). put.number) (puts rounds others))
numbers-gather rounds (_ ∷ others) xs = numbers-gather rounds others xs

leaves-claim : (n : ℕ) (b : Bool) → (cond b 0 n ≡ 0) ⊎ (cond b 0 n ≡ n)
leaves-claim n true = inl refl
leaves-claim n false = inr refl

-- an exact event leaves no number out
pub leaves-none : (w : World) (event : Event) → w.kept.raced ≡ false → IsExact w event
    → LeavesNoneOut (settings w) w.run event
leaves-none w (events.Start name sci priority) calm exact = tt
leaves-none w (events.Tick s shown) calm exact = exact ∙ calm-shown w s calm
leaves-none w (events.Deliver frame s) calm exact = tt
leaves-none w (events.Restart s) calm exact = tt
leaves-none w (events.Claim s user pn) calm exact =
    let n = shown_next (settings w) s w.run in
    subst (λ (m : ℕ). (m ≡ 0) ⊎ (m ≡ n)) (sym (exact.0 ∙ calm-claimed w s calm))
    (leaves-claim n (nat_lt last_number n))
leaves-none w events.Emit calm exact = tt
leaves-none w (events.Inject s octets) calm exact = tt

-- a number within the range is claimed as it is
pub in-range : (n : ℕ) → n ≤ last_number → in_range n ≡ n
in-range n most =
    let e : nat_lt last_number n ≡ false = grind arith in ap (λ (b : Bool). cond b 0 n) e

-- no next number under a key is above a user frame that has room
pub under-user : (settings : Settings) (s : ℕ) (r : Run) (k : Option Key) (user : ℕ)
    → ((t epoch : ℕ) → next settings t epoch r ≤ user) → next_under settings s r k ≤ user
under-user settings s r None user room = omega arith
under-user settings s r (Some k) user room = room s k.epoch

-- an exact event shows and claims the next number of its group
pub exact-in : (w : World) (event : Event) → w.kept.raced ≡ false → IsTyped event
    → IsExact w event → IsExactIn (settings w) w.run event
exact-in w (events.Start name sci priority) calm typed exact = tt
exact-in w (events.Tick s shown) calm typed exact = exact ∙ calm-shown w s calm
exact-in w (events.Deliver frame s) calm typed exact = tt
exact-in w (events.Restart s) calm typed exact = tt
exact-in w (events.Claim s user pn) calm typed exact =
    let room = (exact.1 calm).1 in
    let most = under-user (settings w) s w.run (transmitting_at (settings w) s w.run) user room in
    let small : user < 2 ^ 32 = typed.1 in
    exact.0 ∙ calm-claimed w s calm
    ∙ in-range (shown_next (settings w) s w.run) (omega (arith, most, small))
exact-in w events.Emit calm typed exact = tt
exact-in w (events.Inject s octets) calm typed exact = tt

-- a claim finds its key with a number left, or none
pub calm-left : (w : World) (event : Event) → w.kept.raced ≡ false → IsTyped event
    → IsExact w event → FindsLeft (settings w) w.run event
calm-left w (events.Start name sci priority) calm typed exact = tt
calm-left w (events.Tick s shown) calm typed exact = tt
calm-left w (events.Deliver frame s) calm typed exact = tt
calm-left w (events.Restart s) calm typed exact = tt
calm-left w (events.Claim s user pn) calm typed exact =
    finds-left (settings w) s pn w.run
    (λ none. sym (exact-in w (events.Claim s user pn) calm typed exact) ∙ none)
calm-left w events.Emit calm typed exact = tt
calm-left w (events.Inject s octets) calm typed exact = tt

-- what grows by the claims of an event stays within the count of user frames and one
by-claims : (w : World) (event : Event) (n s epoch : ℕ) → w.kept.raced ≡ false → IsTidy w
    → IsExact w event → n ≤ next (settings w) s epoch w.run + claims_of event
    → n ≤ length w.kept.users + 1
by-claims w (events.Claim t user pn) n s epoch calm tidy exact grown =
    let room = exact.1 calm in
    let there = room.0 in
    let before = room.1 s epoch in omega (arith, there, before, grown)
by-claims w (events.Start name sci priority) n s epoch calm tidy exact grown =
    let before = tidy.few calm s epoch in omega (arith, before, grown)
by-claims w (events.Tick t shown) n s epoch calm tidy exact grown =
    let before = tidy.few calm s epoch in omega (arith, before, grown)
by-claims w (events.Deliver frame t) n s epoch calm tidy exact grown =
    let before = tidy.few calm s epoch in omega (arith, before, grown)
by-claims w (events.Restart t) n s epoch calm tidy exact grown =
    let before = tidy.few calm s epoch in omega (arith, before, grown)
by-claims w events.Emit n s epoch calm tidy exact grown =
    let before = tidy.few calm s epoch in omega (arith, before, grown)
by-claims w (events.Inject t octets) n s epoch calm tidy exact grown =
    let before = tidy.few calm s epoch in omega (arith, before, grown)

-- an event that goes on in a tidy world, and shows these facts
pub record Proceeds (w : World) (event : Event) (facts : List Fact) : Type 0 where
  pub tidy : IsTidy w
  pub comes : Comes (happen event) w
  pub typed : IsTyped event
  pub on : IsUnstopped (settings w) w.kept.users w.run (named w event) event (supply w) facts

pub event-proceeds : (w : World) (event : Event) (facts : List Fact) → IsTidy w → Comes (happen event) w
    → IsTyped event → IsSetting (settings w)
    → first_stop (settings w) w.kept.users w.run event (supply w) ≡ None
    → expected (settings w) w.kept.users w.run event (drawn_from (settings w).suite (supply w))
    ≡ Some facts → Proceeds w event facts
event-proceeds w event facts tidy comes typed setting goes shows = record {
  tidy = tidy;
  comes = comes;
  typed = typed;
  on = record {
    setting = setting;
    typed = typed;
    draws = supply-draws w tidy;
    may_come = comes.0;
    shows = shows;
    goes = goes;
  };
}

-- it leaves the run legal
pub legal-after : (w : World) (event : Event) (facts : List Fact) → Proceeds w event facts
    → IsLegal (settings w) w.kept.users (happened event facts ∷ w.run)
legal-after w event facts g =
    legal (settings w) w.kept.users w.run (named w event) event (supply w) facts g.on
    g.tidy.sound.legal

-- before the first race it leaves no number out
pub thrifty-calm : (w : World) (event : Event) (facts : List Fact) → w.kept.raced ≡ false
    → Proceeds w event facts → is_racing w.kept.phase ≡ false
    → IsThrifty (settings w) (happened event facts ∷ w.run)
thrifty-calm w event facts calm g apart =
    stays-thrifty (settings w) w.kept.users (happened event facts) w.run
    (is-step (settings w) w.kept.users w.run (named w event) event (supply w) facts g.on)
    (leaves-none w event calm g.comes.1) (g.tidy.sound.thrifty apart)

-- it leaves the run sound, where that is thrifty
sound-after : (w : World) (event : Event) (facts : List Fact) → Proceeds w event facts
    → (is_racing w.kept.phase ≡ false → IsThrifty (settings w) (happened event facts ∷ w.run))
    → IsSoundIn (is_racing w.kept.phase) (settings w) w.kept.users (happened event facts ∷ w.run)
sound-after w event facts g thrifty = record {
  legal = legal-after w event facts g;
  fresh = fresh (settings w) w.kept.users w.run (named w event) event (supply w) facts g.on
      g.tidy.sound.legal.stepped g.tidy.sound.fresh;
  unforged = unforged (settings w) w.kept.users w.run (named w event) event (supply w) facts g.on
      g.tidy.sound.unforged;
  thrifty = thrifty;
}

pub tidy-after : (w : World) (event : Event) (facts : List Fact) → Proceeds w event facts
    → FindsLeft (settings w) w.run event → w.kept.begun ≡ true
    → (is_racing w.kept.phase ≡ false → IsThrifty (settings w) (happened event facts ∷ w.run))
    → IsTidy (world_after w event facts)
unfolding air
tidy-after w event facts g left begun thrifty =
    let x = happened event facts in
    let tidy = g.tidy in
    let sound = sound-after w event facts g thrifty in
    let stepped = sound.legal.stepped in
    record {
      sound = sound;
      within = stepped.0.within;
      frames = map-append (λ (put : Put). put.number) w.kept.frames (puts w.kept.rounds facts)
          ∙ ap (λ (l : List ℕ). l ++ map (λ (put : Put). put.number) (puts w.kept.rounds facts))
          tidy.frames
          ∙ sym (numbers-gather w.kept.rounds facts (air w.run));
      numbered = air-numbered (settings w) w.kept.users (x ∷ w.run) stepped;
      in_turn = stays-in-turn (settings w) w.kept.users x w.run stepped.0 tidy.in_turn;
      few = λ e s epoch.
          by-claims w event (next (settings w) s epoch (x ∷ w.run)) s epoch e tidy g.comes.1
          (few (settings w) w.run s epoch w.kept.users event facts
          (kind (settings w) w.kept.users x w.run stepped.0)
          (exact-in w event e g.typed g.comes.1));
      unspent = (
        facts-unspent (settings w) w.kept.users w.run event
            (drawn_from (settings w).suite (supply w)) facts g.on.shows left,
        tidy.unspent,
      );
      waits = λ e. absurd (let bad : true ≡ false = sym begun ∙ e in cc);
      draws = tidy.draws;
      dealt = tidy.dealt;
    }
