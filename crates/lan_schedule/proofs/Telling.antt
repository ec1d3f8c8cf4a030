-- What the words of a replay tell of its world.
use Rattle.std.proofs.Common.{◌≡◌, ◌<◌, ℕ, ◌+◌, Bool, true, false, cond, List, [], length}
use Rattle.std.proofs.Common.{Option, Some, None, refl, sym, ap, ◌∙◌, subst, arith}
use Rattle.std.specs.Prelude.{not, option_map, option_and_then, slice_get, slice_index}
use Rattle.lan_base.specs.declared.association_number.AssociationNumber.{AssociationNumber}
use Rattle.lan_base.specs.declared.association_number.AssociationNumber.TheVariants.{An0, An1, An2, An3}
use Rattle.lan_base.specs.AssociationNumbers.{number_of, same_an}
use Rattle.sak_exchange.specs.declared.held_key.Key.{Key}
use Rattle.sak_exchange.specs.Held.{transmitting}
use Rattle.association_slots.specs.Views.{ControlAt, present_at, claimed, count as count_of}
use Rattle.association_slots.specs.Words.{epoch_of, flag_of, next_of, shown_by}
use Rattle.association_slots.specs.declared.view.Current.{Current}
use Rattle.association_slots.specs.declared.view.ControlView.{ControlView}
use Rattle.lan_core.specs.declared.settings.Settings.{Settings}
use Rattle.lan_core.specs.Run.{Run, stations}
use Rattle.lan_core.specs.Claims.{next}
use Rattle.lan_core.specs.Ledgers.{claims as claims_in}
use Rattle.lan_core.specs.Expected.{last_number}
use Rattle.lan_core.specs.Lives.{Life, life, transmitting_at, keys_in}
use Rattle.group_safety.specs.Transmitting.{Sending, Carried, now, names, transmits, CarriesIn}
use Rattle.group_safety.specs.Transmitting.{CarriesAt}
use Rattle.group_safety.specs.Accounts.{Account, account_at, numbers_at}
use Rattle.station_words.specs.Counting.{times_in}
use Rattle.station_words.specs.Telling.{KeepUp, CatchUp, Tells}
use Rattle.station_words.specs.Shown.{Show, ShowAtLeast}
use Rattle.station_words.specs.Ties.{AreTiedBy}
use Rattle.lan_schedule.specs.declared.stage.Stage.{Stage}
use Rattle.lan_schedule.specs.declared.commands.Replay.{Replay}
use Rattle.lan_schedule.specs.Races.{Phase}
use Rattle.lan_schedule.specs.World.{World, settings, is_racing}
use Rattle.lan_schedule.specs.Numbers.{shown_next, claimed_number}
use Rattle.lan_schedule.specs.Sound.{IsTidy}
use Rattle.lan_schedule.specs.Stages.{Says}
use Rattle.lan_schedule.specs.Standing.{IsStaged, StandsFor}
use Rattle.lan_schedule.specs.Shown.{words_in, words_of, HasWords, IsShownNext, ShowKey}
use Rattle.lan_schedule.specs.Shown.{ShowTheCore}
use Rattle.lan_schedule.proofs.Tidying.{in-range, under-user}
use Rattle.lan_schedule.proofs.Replaying.{stood-apart}

-- ---- what the words say

empty-by : (Say : Account → ControlView → Type 0) (settings : Settings)
    → AreTiedBy Say settings [] []
unfolding stations
empty-by Say settings = record { many = refl; each = λ s control is. absurd (cc is) }

-- no words say nothing of no run
says-empty : (raced racing : Bool) (settings : Settings) → Says raced racing settings [] []
says-empty false racing settings = empty-by Tells settings
says-empty true false settings = empty-by CatchUp settings
says-empty true true settings = empty-by KeepUp settings

says-in : (w : World) (replay : Replay) (o : Option Stage) → IsStaged w replay o
    → Says w.kept.raced (is_racing w.kept.phase) (settings w) w.run (words_in o)
says-in w replay None staged =
    subst (λ (r : Run). Says w.kept.raced (is_racing w.kept.phase) (settings w) r [])
    (sym staged.0) (says-empty w.kept.raced (is_racing w.kept.phase) (settings w))
says-in w replay (Some stage) staged = staged.words

-- what the words of a replay say of the run of its world
says-of : (w : World) (replay : Replay) → StandsFor w replay
    → Says w.kept.raced (is_racing w.kept.phase) (settings w) w.run (words_of replay)
says-of w replay stands = says-in w replay replay.stage stands.stage

-- a replay stands between two lines
outside : (w : World) (replay : Replay) → StandsFor w replay → is_racing w.kept.phase ≡ false
outside w replay stands =
    ap (λ (p : Phase). is_racing p) stands.phase ∙ stood-apart replay.phase

says-many : (raced racing : Bool) (settings : Settings) (r : Run) (cs : List ControlAt)
    → Says raced racing settings r cs → length cs ≡ length (stations r)
says-many false racing settings r cs says = says.many
says-many true false settings r cs says = says.many
says-many true true settings r cs says = says.many

-- there are as many words as stations
pub are-many : (w : World) (replay : Replay) → StandsFor w replay
    → length (words_of replay) ≡ length (stations w.run)
are-many w replay stands =
    says-many w.kept.raced (is_racing w.kept.phase) (settings w) w.run (words_of replay)
    (says-of w replay stands)

-- What control was told at a station is what the run has; and before the first race the words tell
-- the account.
pub record HasTold (raced : Bool) (settings : Settings) (s : ℕ) (r : Run) (c : ControlAt) : Type 0
  where
    pub carried : Carried
    pub carries : CarriesAt settings s r carried
    pub keep_up : KeepUp (account_at settings s r carried) c.view
    pub claims : (epoch pn : ℕ)
        → count_of (claimed epoch pn) c.view.told ≡ times_in epoch pn (numbers_at s (claims_in r))
    pub tells : raced ≡ false → Tells (account_at settings s r carried) c.view

has-told : (raced racing : Bool) (settings : Settings) (s : ℕ) (r : Run) (cs : List ControlAt)
    (c : ControlAt) → racing ≡ false → Says raced racing settings r cs → slice_get cs s ≡ Some c
    → HasTold raced settings s r c
has-told false racing settings s r cs c apart says has =
    let tie = says.each s c has in
    record {
      carried = tie.0;
      carries = tie.1;
      keep_up = tie.2.keep_up;
      claims = tie.2.claims;
      tells = λ e. tie.2;
    }
has-told true false settings s r cs c apart says has =
    let tie = says.each s c has in
    record {
      carried = tie.0;
      carries = tie.1;
      keep_up = tie.2.keep_up;
      claims = tie.2.claims;
      tells = λ e. absurd (cc e);
    }
has-told true true settings s r cs c apart says has = absurd (cc apart)

pub was-told : (w : World) (replay : Replay) (s : ℕ) (control : ControlAt) → StandsFor w replay
    → HasWords replay s control → HasTold w.kept.raced (settings w) s w.run control
was-told w replay s control stands has =
    has-told w.kept.raced (is_racing w.kept.phase) (settings w) s w.run (words_of replay) control
    (outside w replay stands) (says-of w replay stands) has

-- ---- what transmits

-- what is carried is the key that transmits
abbrev KeyOf : Option Key → Option (AssociationNumber × ℕ)
KeyOf o = option_map (λ key. (key.an, key.epoch)) o

carries-key : (k : Carried) (o : Option Life) → CarriesIn o k
    → transmits (now k) ≡ KeyOf (option_and_then (λ l. transmitting (keys_in l)) o)
carries-key k None nothing_is = ap (λ (j : Carried). transmits (now j)) nothing_is
carries-key k (Some l) carries = carries.shows

same-as-self : (an : AssociationNumber) → same_an an an ≡ true
same-as-self An0 = refl
same-as-self An1 = refl
same-as-self An2 = refl
same-as-self An3 = refl

-- what words show of a key that is carried
record ShowsKey (raced : Bool) (settings : Settings) (s : ℕ) (r : Run) (words : List ℕ)
    (p : Sending) : Type 0 where
  current : shown_by (slice_index words 4) ≡ record { epoch = p.epoch; present = p.present; an = p.an }
  opens : p.present ≡ true
      → (flag_of (slice_index words (number_of p.an)) ≡ false)
      × (epoch_of (slice_index words (number_of p.an)) ≡ p.epoch)
      × IsShownNext raced (next settings s p.epoch r) (next_of (slice_index words (number_of p.an)))

same-pair : (a b : AssociationNumber × ℕ) → Some a ≡ Some b → a ≡ b
same-pair a b e = cc e

by-key : (raced : Bool) (set : Settings) (s : ℕ) (r : Run) (words : List ℕ) (epoch : ℕ)
    (present : Bool) (an : AssociationNumber) (o : Option Key)
    → cond present (Some (an, epoch)) None ≡ KeyOf o
    → ShowsKey raced set s r words (record { epoch = epoch; present = present; an = an })
    → ShowKey raced set s r words o
by-key raced set s r words epoch true an None e shows = absurd (cc e)
by-key raced set s r words epoch true an (Some key) e shows =
    let same = same-pair (an, epoch) (key.an, key.epoch) e in
    let open_now = shows.opens refl in
    subst (λ (pair : AssociationNumber × ℕ).
    (shown_by (slice_index words 4) ≡ present_at pair.0 pair.1)
    × (flag_of (slice_index words (number_of pair.0)) ≡ false)
    × (epoch_of (slice_index words (number_of pair.0)) ≡ pair.1)
    × IsShownNext raced (next set s pair.1 r) (next_of (slice_index words (number_of pair.0)))) same
    (shows.current, open_now.0, open_now.1, open_now.2)
by-key raced set s r words epoch false an None e shows =
    ap (λ (p : Current). p.present) shows.current
by-key raced set s r words epoch false an (Some key) e shows = absurd (cc e)

shut-names : (p : Sending) (b : Bool) → p.present ≡ true → b ≡ not (names p p.an) → b ≡ false
shut-names p b is shut = shut ∙ rw (is, same-as-self p.an) refl

-- what they show by what they say
shows-key : (raced : Bool) (settings : Settings) (s : ℕ) (r : Run) (words : List ℕ) (k : Carried)
    → (raced ≡ false → Show (account_at settings s r k) words)
    → ShowAtLeast (account_at settings s r k) words → ShowsKey raced settings s r words (now k)
shows-key false settings s r words k told up =
    let shows = told refl in
    record {
      current = shows.current;
      opens = λ is. (
        shut-names (now k) _ is (shows.shut (now k).an),
        (shows.opens is).0,
        (shows.opens is).1,
      );
    }
shows-key true settings s r words k told up = record {
  current = up.current;
  opens = λ is. (
    shut-names (now k) _ is (up.shut (now k).an),
    (up.opens is).0,
    (up.opens is).1,
  );
}

-- words that tell a run, or have caught up with it, show its core
pub core-shown : (w : World) (s : ℕ) (control : ControlAt) (words : List ℕ)
    → HasTold w.kept.raced (settings w) s w.run control
    → ((a : Account) → Tells a control.view → Show a words)
    → ((a : Account) → KeepUp a control.view → ShowAtLeast a words) → ShowTheCore w s words
core-shown w s control words told shows least =
    let k = told.carried in
    let a = account_at (settings w) s w.run k in
    by-key w.kept.raced (settings w) s w.run words (now k).epoch (now k).present (now k).an
    (transmitting_at (settings w) s w.run)
    (carries-key k (life (settings w) s w.run) told.carries)
    (shows-key w.kept.raced (settings w) s w.run words k (λ calm. shows a (told.tells calm))
    (least a told.keep_up))

pub not-exhausted : (w : World) → IsTidy w → w.kept.raced ≡ false
    → length w.kept.users < last_number → (s : ℕ)
    → claimed_number (settings w) s w.run ≡ shown_next (settings w) s w.run
not-exhausted w tidy calm few s =
    let most = under-user (settings w) s w.run (transmitting_at (settings w) s w.run)
    (length w.kept.users + 1) (tidy.few calm) in
    in-range (shown_next (settings w) s w.run) (omega (arith, most, few))
