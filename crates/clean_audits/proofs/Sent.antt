-- The message numbers of a life rise: what was sent under its member identifier has no number above the
-- last one that it sent.
use Rattle.std.proofs.Common.{◌≡◌, ◌<◌, ◌≤◌, refl, sym, ap, ◌∙◌, inl, inr, ℕ, List, [], ◌∷◌}
use Rattle.std.proofs.Common.{Bool, true, false, cond, Option, Some, None, arith}
use Rattle.std.specs.Prelude.{◌==◌}
use Rattle.std.specs.List.{filter}
use Rattle.std.specs.Option.{option_or}
use Rattle.std.proofs.lemmas.Bool.{and_parts, eqb-true, lt-ltb}
use Rattle.lan_base.specs.Identifiers.{same_mi}
use Rattle.lan_base.specs.declared.address.Mi.{Mi}
use Rattle.lan_base.specs.declared.frame.UserFrame.{UserFrame}
use Rattle.member_notes.specs.declared.mkpdu.RightMkpdu.{RightMkpdu}
use Rattle.member_notes.specs.declared.novelty.MkpduNovelty.TheVariants.{New}
use Rattle.member_notes.specs.Mkpdus.{first_of, is_above, is_of, mkpdus_of, note_here, note_of, novelty_in}
use Rattle.mkpdu_codec.specs.declared.announcement.Announcement.{Announcement}
use Rattle.peer_lists.specs.Histories.{last_sent}
use Rattle.peer_lists.proofs.Public.{same_mi-equal}
use Rattle.sak_exchange.proofs.Public.{by_test}
use Rattle.mka_station.specs.Lives.{Entry, Member, peers_of}
use Rattle.mka_station.specs.Hearing.{follow_at, hear_turn}
use Rattle.mka_station.specs.Tick.{says_at, ticked_past, with_sent}
use Rattle.lan_core.specs.declared.event.Event.TheVariants as events
use Rattle.lan_core.specs.declared.fact.Fact.{Fact}
use Rattle.lan_core.specs.declared.settings.Settings.{Settings}
use Rattle.lan_core.specs.Run.{Run, Happening, happened}
use Rattle.lan_core.specs.Lives.{Life, life, lived, sak_in, seen_at, turn_at_tick}
use Rattle.lan_core.specs.Fresh.{IsFresh}
use Rattle.lan_core.specs.Legal.{IsStep}
use Rattle.group_safety.proofs.Public.{In}
use Rattle.group_safety.proofs.Public.{turn-past, announced-next, sent-before, sent-heard, sent-some, hear-past, key_heard}
use Rattle.group_safety.proofs.Public.{tick_key, tick_lead, tick_roster}
use Rattle.clean_audits.proofs.GivenKeys.{IsTick, said_by}
use Rattle.clean_audits.proofs.Rising.{below-later, below-now, IsBelow, Rises}

-- ---- what a turn sends

-- the number that was sent last after a tick
tick-sent : (settings : Settings) (s next : ℕ) (r : Run) (f : List Fact) (l : Life)
    (o : Option Announcement)
    → says_at l.member (seen_at settings s r l next) (sak_in f) l.past ≡ o
    → last_sent (peers_of l.member (lived l (turn_at_tick settings s r l next (sak_in f))).past)
    ≡ last_sent (peers_of l.member (with_sent o
    (ticked_past l.member (seen_at settings s r l next) (sak_in f) l.past)))
tick-sent settings s next r f l o said =
    ap (λ p. last_sent (peers_of l.member p))
    (turn-past l.member (seen_at settings s r l next) (sak_in f) l.past
    ∙ ap (λ w. with_sent w (ticked_past l.member (seen_at settings s r l next) (sak_in f) l.past)) said)

tick-same : (settings : Settings) (s next : ℕ) (r : Run) (f : List Fact) (l : Life)
    → last_sent (peers_of l.member (ticked_past l.member (seen_at settings s r l next) (sak_in f) l.past))
    ≡ last_sent (peers_of l.member l.past)
tick-same settings s next r f l =
    sent-before l.member (tick_roster l.member l.past)
    (tick_key l.member (seen_at settings s r l next) (sak_in f) l.past) (tick_lead l.member l.past) l.past

tick-more : (settings : Settings) (s next : ℕ) (r : Run) (f : List Fact) (l : Life)
    → last_sent (peers_of l.member l.past)
    ≤ last_sent (peers_of l.member (lived l (turn_at_tick settings s r l next (sak_in f))).past)
tick-more settings s next r f l =
    go (says_at l.member (seen_at settings s r l next) (sak_in f) l.past) refl
  where
    q : List Entry
    q = ticked_past l.member (seen_at settings s r l next) (sak_in f) l.past

    go : (o : Option Announcement)
        → says_at l.member (seen_at settings s r l next) (sak_in f) l.past ≡ o
        → last_sent (peers_of l.member l.past)
        ≤ last_sent (peers_of l.member (lived l (turn_at_tick settings s r l next (sak_in f))).past)
    go None said =
        let now = tick-sent settings s next r f l None said in
        let same = tick-same settings s next r f l in
        omega (arith, now, same)
    go (Some a) said =
        let now = tick-sent settings s next r f l (Some a) said ∙ sent-some l.member a q in
        let up = announced-next l.member (seen_at settings s r l next) (sak_in f) l.past a said in
        omega (arith, now, up)

hear-same : (m : Member) (a : Announcement) (p : List Entry)
    → last_sent (peers_of m (hear_turn m a p).past) ≡ last_sent (peers_of m p)
hear-same m a p =
    ap (λ q. last_sent (peers_of m q)) (hear-past m a p)
    ∙ sent-heard m (follow_at m a p) (key_heard m a p) a p

-- ---- what was sent

-- the number that a life sent last
abbrev pub number_sent : Life → ℕ
number_sent l = last_sent (peers_of l.member l.past)

sent-rises : Rises number_sent
sent-rises = record {
  ticking = λ settings s next r f l. tick-more settings s next r f l;
  hearing = λ l a. let same = hear-same l.member a l.past in omega (arith, same);
}

-- under a member identifier that a life has, no number is above the last one of that life
abbrev pub IsSent : Settings → Run → Mi → ℕ → Type 0
IsSent settings r mi mn = IsBelow number_sent settings r mi mn

pub sent-later : (settings : Settings) (users : List UserFrame) (x : Happening) (r : Run) (mi : Mi) (mn : ℕ)
    → IsStep settings users x r → IsFresh (x ∷ r) → IsSent settings r mi mn → IsSent settings (x ∷ r) mi mn
sent-later settings users x r mi mn = below-later number_sent sent-rises settings users x r mi mn

pub sent-now : (settings : Settings) (users : List UserFrame) (s next : ℕ) (f : List Fact) (r : Run)
    (l : Life) (a : Announcement) → IsTick settings users s next f r l
    → said_by settings s next f r l ≡ Some a → a.mi ≡ l.member.mi
    → IsSent settings (happened (events.Tick s next) f ∷ r) a.mi a.mn
sent-now settings users s next f r l a t said mi =
    let last : number_sent (lived l (turn_at_tick settings s r l next (sak_in f))) ≡ a.mn =
    tick-sent settings s next r f l (Some a) said
    ∙ sent-some l.member a (ticked_past l.member (seen_at settings s r l next) (sak_in f) l.past) in
    below-now number_sent settings users s next f r l a.mi a.mn t mi (omega (arith, last))

-- what was sent before under its identifier has a lower number
pub sent-below : (settings : Settings) (s next : ℕ) (f : List Fact) (r : Run) (l : Life)
    (a : Announcement) (mn : ℕ) → life settings s r ≡ Some l → said_by settings s next f r l ≡ Some a
    → a.mi ≡ l.member.mi → IsSent settings r a.mi mn → mn < a.mn
sent-below settings s next f r l a mn living said mi sent =
    let less = sent.below s l living (sym mi) in
    let up = announced-next l.member (seen_at settings s r l next) (sak_in f) l.past a said in
    omega (arith, less, up)

-- ---- a new MKPDU

-- what a filter leaves stands in the list, and passes
in-filtered : {A : Type 0} (p : A → Bool) (xs : List A) (x : A) → In x (filter p xs)
    → In x xs × (p x ≡ true)
in-filtered p [] x i = elim i [ ]
in-filtered {A} p (y ∷ ys) x i = go (p y) refl i (in-filtered p ys x)
  where
    go : (b : Bool) → p y ≡ b → In x (cond b (y ∷ filter p ys) (filter p ys))
        → (In x (filter p ys) → In x ys × (p x ≡ true)) → In x (y ∷ ys) × (p x ≡ true)
    go true is (inl same) later = (inl same, ap p same ∙ is)
    go true is (inr j) later = let r = later j in (inr r.0, r.1)
    go false is j later = let r = later j in (inr r.0, r.1)

none-first : (mn : ℕ) (ms : List RightMkpdu) → ((m : RightMkpdu) → In m ms → m.mn < mn)
    → first_of mn ms ≡ None
none-first mn [] less = refl
none-first mn (m ∷ ms) less =
    let here = less m (inl refl) in
    let apart : (m.mn == mn) ≡ false = by_test (m.mn == mn)
    (λ y. let same = eqb-true m.mn mn y in absurd (omega (arith, here, same))) (λ y. y) in
    ap (λ o. option_or o (note_here mn m)) (none-first mn ms (λ n i. less n (inr i)))
    ∙ ap (λ b. cond b (Some (note_of m)) None) apart

all-below : (mn : ℕ) (ms : List RightMkpdu) → ((m : RightMkpdu) → In m ms → m.mn < mn)
    → is_above mn ms ≡ true
all-below mn [] less = refl
all-below mn (m ∷ ms) less =
    rw (lt-ltb m.mn mn (less m (inl refl))) (all-below mn ms (λ n i. less n (inr i)))

pub new-mkpdu : (ms : List RightMkpdu) (e : RightMkpdu)
    → ((m : RightMkpdu) → In m ms → m.mi ≡ e.mi → m.mn < e.mn) → novelty_in ms e ≡ New
new-mkpdu ms e less =
    let of : (m : RightMkpdu) → In m (mkpdus_of e.group e.mi ms) → m.mn < e.mn = λ m i.
    let both = in-filtered (is_of e.group e.mi) ms m i in
    let mi = and_parts (m.group == e.group) (same_mi m.mi e.mi) both.1 in
    less m both.0 (same_mi-equal m.mi e.mi mi.1) in
    rw (none-first e.mn (mkpdus_of e.group e.mi ms) of, all-below e.mn (mkpdus_of e.group e.mi ms) of) refl
