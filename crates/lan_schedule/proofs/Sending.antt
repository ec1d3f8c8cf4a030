-- Lines that change little, and user data that is sent.
use Rattle.std.proofs.Common.{◌≡◌, ◌<◌, ◌≤◌, ℕ, ◌+◌, ◌==◌, Bool, true, false, inl, inr, List, []}
use Rattle.std.proofs.Common.{◌∷◌, ◌++◌, length, Some, refl, sym, ap, ◌∙◌, subst}
use Rattle.std.proofs.Common.{length-append, append-nil, arith}
use Rattle.std.specs.Prelude.{Result, Ok, Err}
use Rattle.lan_base.specs.declared.frame.UserFrame.{UserFrame}
use Rattle.association_slots.specs.Views.{ControlAt}
use Rattle.lan_core.specs.declared.event.Event.TheVariants as events
use Rattle.lan_core.specs.declared.settings.Settings.{Settings}
use Rattle.lan_core.specs.Run.{Run, stations}
use Rattle.lan_core.specs.Claims.{user_at}
use Rattle.lan_core.specs.Expected.{last_number}
use Rattle.lan_core.specs.Lives.{transmitting_at}
use Rattle.worker_races.specs.Carded.{AreCarded}
use Rattle.worker_races.proofs.Public.{carded-kept}
use Rattle.trace_acts.specs.declared.halt.Halt.{Halt}
use Rattle.trace_acts.specs.declared.links.Link.{Link}
use Rattle.lan_base.specs.declared.sink.Unwritten.{Unwritten}
use Rattle.trace_acts.specs.Links.{with_link, without_link}
use Rattle.trace_acts.proofs.Public.{user-at-end}
use Rattle.lan_schedule.specs.declared.stage.Stage.{Stage}
use Rattle.lan_schedule.specs.World.{World, settings, is_racing}
use Rattle.lan_schedule.specs.Numbers.{number_claimed, decided, shown_next}
use Rattle.lan_schedule.specs.Acts.{Act, happen, seq, perform}
use Rattle.lan_schedule.specs.Races.{Chance}
use Rattle.lan_schedule.specs.Acts.{unless}
use Rattle.lan_schedule.specs.Lines.{begin, at_line, add_user, send, claim, cut_in, mended_in}
use Rattle.lan_schedule.specs.Sound.{IsTidy}
use Rattle.lan_schedule.specs.Reports.{Report}
use Rattle.lan_schedule.specs.Ends.{Moment, IsReached, Ends}
use Rattle.lan_schedule.specs.inside.Comes.{Comes}
use Rattle.lan_schedule.specs.Stages.{Says, StandsWith, StandsFor}
use Rattle.lan_schedule.specs.inside.Recording.{Mark, KeepSeats, stages_since}
use Rattle.lan_schedule.specs.inside.Set.{IsClaimNumber}
use Rattle.lan_schedule.specs.inside.Staged.{IsSetSince}
use Rattle.lan_schedule.proofs.Recorded.{looked-apart}
use Rattle.std.specs.Prelude.{is_some, option_map}
use Rattle.lan_schedule.specs.inside.Staged.{Did, Happened, Changed}
use Rattle.lan_core.proofs.Public.{stands-more}
use Rattle.lan_schedule.proofs.Same.{IsSame, same-self, stands-with}
use Rattle.lan_schedule.proofs.Tidying.{under-user}
use Rattle.lan_schedule.proofs.Unspent.{finds-left}
use Rattle.lan_schedule.proofs.Claiming.{Gives, gives-taken}
use Rattle.lan_schedule.proofs.Chances.{claimed-is}
use Rattle.lan_schedule.proofs.Doing.{change-does, ends-early, ends-behind, both-chances, going}
use Rattle.lan_schedule.proofs.Doing.{told-none}
use Rattle.lan_schedule.proofs.OnWay.{IsAs, as-left}

-- the words are as before
still : (w : World) (old new : Stage) → new.words ≡ old.words → StandsFor w old
    → Says w.kept.raced (is_racing w.kept.phase) (settings w) w.run new.words
still w old new words stands =
    subst (λ (cs : List ControlAt). Says w.kept.raced (is_racing w.kept.phase) (settings w) w.run cs)
    (sym words) stands.words

same-cards : (w : World) (old new : Stage) → new.words ≡ old.words → StandsFor w old
    → AreCarded (settings w) w.run new.words
same-cards w old new words stands =
    subst (λ (cs : List ControlAt). AreCarded (settings w) w.run cs) (sym words) stands.cards

pub cut-changed : (from to : ℕ) (old new : Stage) → IsSame old new → new.line ≡ old.line
    → new.users ≡ old.users → new.words ≡ old.words → new.cuts ≡ with_link from to old.cuts
    → Changed (cut_in from to) old new
cut-changed from to old new same line users words cuts = record {
  stands = λ w stands. stands-with w w.kept.line w.kept.users (with_link from to w.kept.cuts)
      w.kept.begun old new stands same (line ∙ stands.line) (users ∙ stands.users)
      (cuts ∙ ap (λ (l : List Link). with_link from to l) stands.cuts) stands.begun stands.lan
      (still w old new words stands) (same-cards w old new words stands);
  same = λ w. (refl, refl, refl);
  words = words;
  steps = ap (λ o. option_map (λ steps. steps.items) o) same.steps;
}

pub mend-changed : (from to : ℕ) (old new : Stage) → IsSame old new → new.line ≡ old.line
    → new.users ≡ old.users → new.words ≡ old.words → new.cuts ≡ without_link from to old.cuts
    → Changed (mended_in from to) old new
mend-changed from to old new same line users words cuts = record {
  stands = λ w stands. stands-with w w.kept.line w.kept.users (without_link from to w.kept.cuts)
      w.kept.begun old new stands same (line ∙ stands.line) (users ∙ stands.users)
      (cuts ∙ ap (λ (l : List Link). without_link from to l) stands.cuts) stands.begun stands.lan
      (still w old new words stands) (same-cards w old new words stands);
  same = λ w. (refl, refl, refl);
  words = words;
  steps = ap (λ o. option_map (λ steps. steps.items) o) same.steps;
}

-- a station came already
begun-again : (now : Stage) → Changed (λ kept. record kept { begun = true }) now now
begun-again now = record {
  stands = λ w stands. stands-with w w.kept.line w.kept.users w.kept.cuts true now now stands
      (same-self now) stands.line stands.users stands.cuts refl stands.lan stands.words
      stands.cards;
  same = λ w. (refl, refl, refl);
  words = refl;
  steps = refl;
}

pub line-stands : (number : ℕ) (w : World) (old new : Stage) → IsSame old new
    → new.line ≡ number → new.users ≡ old.users → new.words ≡ old.words → new.cuts ≡ old.cuts
    → StandsFor w old
    → StandsFor (at_line number w) new
line-stands number w old new same line users words cuts stands =
    stands-with w number w.kept.users w.kept.cuts w.kept.begun old new stands same line
    (users ∙ stands.users) (cuts ∙ stands.cuts) stands.begun stands.lan
    (still w old new words stands) (same-cards w old new words stands)

-- ---- user data

-- the world in which one user frame more is named
abbrev pub with_user : UserFrame → World → World
with_user user w = record w { kept = record w.kept { users = w.kept.users ++ user ∷ [] } }

-- and the words are moved
user-stands : {B : Bool → Bool → Settings → Run → List ControlAt → Type 0} (user : UserFrame)
    (w : World) (old mid : Stage) → StandsFor w old → IsSame old mid → mid.line ≡ old.line
    → mid.users ≡ old.users + 1 → mid.cuts ≡ old.cuts
    → B w.kept.raced (is_racing w.kept.phase) (settings w) w.run mid.words
    → AreCarded (settings w) w.run mid.words → StandsWith B (with_user user w) mid
user-stands user w old mid stands same line users cuts words cards =
    let longer : length (w.kept.users ++ user ∷ [])
    ≡ length w.kept.users + 1 = length-append w.kept.users (user ∷ []) in
    stands-with w w.kept.line (w.kept.users ++ user ∷ []) w.kept.cuts w.kept.begun old mid stands
    same (line ∙ stands.line) (users ∙ ap (λ (n : ℕ). n + 1) stands.users ∙ sym longer)
    (cuts ∙ stands.cuts) stands.begun
    (stands-more (settings w) w.kept.users (user ∷ []) old.lan w.run stands.lan) words cards

-- a claim gets none where no next number is
taken-none : (raced : Bool) (next n : ℕ) → IsClaimNumber raced next n → n ≡ 0 → next ≡ 0
taken-none false next n taken none = sym taken.0 ∙ none
taken-none true next n (inl some) none = absurd (let low = some.0 in let few = some.1 in omega (arith, low, few, none))
taken-none true next n (inr both) none = both.0

module _ {K : Type 0} {Took : K → Report → K → Type 0} {Broke : K → Report → K → Unwritten → Type 0}
  where
    pub begin-does : (now : Moment Stage K) → Did Took Broke begin now now (Ok tt)
    begin-does now = change-does _ now now (λ kept. (refl, refl)) (begun-again now.value) refl

    -- what a station claims and emits, in the world in which its user frame is named
    pub send-does : (s n pn : ℕ) (user : UserFrame) (more : List Chance)
        (old mid new : Moment Stage K) (r : Result (Unit {0}) Halt) → mid.outlet ≡ old.outlet
        → IsSame old.value mid.value → mid.value.line ≡ old.value.line
        → n ≡ old.value.users + 1 → mid.value.users ≡ n → n ≤ last_number
        → mid.value.cuts ≡ old.value.cuts → Gives s n pn old.value mid.value
        → KeepSeats old.value.words new.value.words
        → ((mark : Mark) (w : World) (later : List Chance)
        → w.kept.chances ≡ (decided mid.value.raced (events.Claim s n pn) ++ more) ++ later
        → IsReached (IsSetSince (events.Claim s n pn) mark) w mid.value
        → Some user ≡ user_at w.kept.users n → Comes (claim s n pn) w
        → Ends (stages_since mark) Took Broke w later (claim s n pn) mid.outlet new r)
        → Did Took Broke (seq (add_user user) (send s)) old new r
    send-does s n pn user more old mid new r outlet same line one_more users most cuts gives seats done =
        let event = events.Claim s n pn in record {
          chances = decided mid.value.raced event ++ more;
          ends = λ mark w later left reached comes.
              let v = with_user user w in
              let tidy : IsTidy v = comes.0 in
              let stands = reached.stands.stands in
              let longer : length v.kept.users
              ≡ length w.kept.users + 1 = length-append w.kept.users (user ∷ []) in
              let place : n ≡ length v.kept.users = one_more
              ∙ ap (λ (k : ℕ). k + 1) stands.users ∙ sym longer in
              let now : Act = claim s (length v.kept.users) (number_claimed v s) in
              let comes_v : Comes now v = comes.1 tidy in
              let there : s < length (stations w.run) = comes_v.0.0.0 in
              let room = comes_v.0.1.1 in
              let taken = gives-taken w s n pn old.value mid.value stands
              comes_v.0.1.2 there gives
              (λ calm. let under = under-user (settings w) s w.run
              (transmitting_at (settings w) s w.run) (length v.kept.users) (room calm).1 in
              omega (arith, under, place, most)) in
              let decides : v.kept.chances ≡ decided v.kept.raced event ++ (more ++ later) =
              both-chances w.kept.chances (decided mid.value.raced event) more later left
              ∙ ap (λ (b : Bool). decided b event ++ (more ++ later)) (same.raced ∙ stands.raced) in
              let number : pn ≡ number_claimed v s =
              claimed-is v s n pn (more ++ later) decides taken.0 in
              let e : claim s n pn ≡ now = ap (λ (k : ℕ). claim s k pn) place
              ∙ ap (λ (k : ℕ). claim s (length v.kept.users) k) number in
              let named : Some user ≡ user_at v.kept.users n =
              sym (user-at-end w.kept.users user)
              ∙ ap (λ (k : ℕ). user_at v.kept.users k) (sym place) in
              let alike : IsAs (seq (add_user user) (send s)) w (claim s n pn) v =
              subst (λ (act : Act). IsAs (seq (add_user user) (send s)) w act v) (sym e)
              (as-left (add_user user) (send s) w v refl) in
              ends-behind Took Broke (stages_since mark)
              (seq (add_user user) (send s)) (claim s n pn) w v later
              old.outlet mid.outlet new r (told-none w v old.outlet mid.outlet refl outlet) refl alike
              (done mark v later left (record {
                stands = record {
                  stands = user-stands user w old.value mid.value stands same line
                      (users ∙ one_more) cuts taken.1
                      (carded-kept (settings w) w.run old.value.words mid.value.words gives.cards
                      stands.cards);
                  looked = looked-apart mark v mid.value (ap (λ o. is_some o) same.steps
                      ∙ stands.steps ∙ comes_v.0.1.2);
                  left = finds-left (settings w) s pn w.run
                      (taken-none w.kept.raced (shown_next (settings w) s w.run) pn taken.0);
                };
                tidy = tidy;
              }) named (subst (λ (act : Act). Comes act v) (sym e) comes_v));
          seats = seats;
        }

    -- the claim ended early
    pub claim-err : (s n pn : ℕ) (user : UserFrame) (mid new : Moment Stage K) (e : Halt)
        → Happened Took Broke (Some user) (events.Claim s n pn) mid new (Err e)
        → (mark : Mark) (w : World) (later : List Chance)
        → w.kept.chances ≡ (decided mid.value.raced (events.Claim s n pn) ++ []) ++ later
        → IsReached (IsSetSince (events.Claim s n pn) mark) w mid.value
        → Some user ≡ user_at w.kept.users n → Comes (claim s n pn) w
        → Ends (stages_since mark) Took Broke w later (claim s n pn) mid.outlet new (Err e)
    claim-err s n pn user mid new e h mark w later left reached named comes =
        let event = events.Claim s n pn in
        ends-early Took Broke (stages_since mark) (happen event)
        (unless (pn == 0) (happen events.Emit)) w later mid.outlet new e
        (h.ends mark w later
        (left ∙ ap (λ (c : List Chance). c ++ later) (append-nil (decided mid.value.raced event)))
        reached named comes.0)

    -- the claim was made, and then the emission ended so
    pub claim-ok : (s n pn : ℕ) (user : UserFrame) (mid now new : Moment Stage K)
        (r : Result (Unit {0}) Halt)
        → Happened Took Broke (Some user) (events.Claim s n pn) mid now (Ok tt)
        → (d : Did Took Broke (unless (pn == 0) (happen events.Emit)) now new r)
        → (mark : Mark) (w : World) (later : List Chance)
        → w.kept.chances ≡ (decided mid.value.raced (events.Claim s n pn) ++ d.chances) ++ later
        → IsReached (IsSetSince (events.Claim s n pn) mark) w mid.value
        → Some user ≡ user_at w.kept.users n → Comes (claim s n pn) w
        → Ends (stages_since mark) Took Broke w later (claim s n pn) mid.outlet new r
    claim-ok s n pn user mid now new r h d mark w later left reached named comes =
        let event = events.Claim s n pn in
        let first = h.ends mark w (d.chances ++ later)
        (both-chances w.kept.chances (decided mid.value.raced event) d.chances later left) reached
        named comes.0 in
        let emit : Act = unless (pn == 0) (happen events.Emit) in
        let comes_later : Comes emit first.0 =
        going (perform (happen event) w) first.0 (λ v. IsTidy v → Comes emit v) first.1 comes.1
        first.2.tidy in
        ends-behind Took Broke (stages_since mark) (claim s n pn) emit w first.0 later
        mid.outlet now.outlet new r first.3 first.5 (as-left (happen event) emit w first.0 first.1)
        (d.ends mark first.0 later first.4 first.2 comes_later)

    -- who did the act of a value did that of an equal value
    pub same-did : {A : Type 0} (f : A → Act) (a b : A) (old new : Moment Stage K)
        (r : Result (Unit {0}) Halt) → a ≡ b → Did Took Broke (f a) old new r
        → Did Took Broke (f b) old new r
    same-did f a b old new r e d = subst (λ x. Did Took Broke (f x) old new r) e d
