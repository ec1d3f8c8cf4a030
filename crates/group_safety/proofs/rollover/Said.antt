-- What a station hears was said: in a tick of a station before.
use Rattle.std.proofs.Common.{◌≡◌, ◌⊎◌, inl, inr, ℕ, suc, ◌+◌, ◌≤◌, ◌<◌, Bool, true, false, List}
use Rattle.std.proofs.Common.{[], ◌∷◌, length, refl, ap, sym, ◌∙◌, subst, arith}
use Rattle.std.proofs.Common.{Option, Some, None, is_some, Result, Ok, Err}
use Rattle.std.specs.Prelude.{option_map, slice_get, ◌==◌}
use Rattle.lan_base.specs.declared.frame.UserFrame.{UserFrame}
use Rattle.aes_block.specs.Secrets.{secret_octets}
use Rattle.aes_cmac.specs.Cmac.{cmac}
use Rattle.gcm_frames.specs.Tags.{is_sec}
use Rattle.mkpdu_codec.specs.declared.announcement.Announcement.{Announcement}
use Rattle.mkpdu_codec.specs.declared.spelled.Spelled.{Spelled}
use Rattle.mkpdu_codec.specs.Frames.{Spells}
use Rattle.mkpdu_codec.specs.Reading.{reading}
use Rattle.mkpdu_codec.specs.Written.{written}
use Rattle.mkpdu_codec.proofs.Public.{read_again}
use Rattle.sak_exchange.specs.declared.change.Change.TheVariants as changes
use Rattle.sak_exchange.specs.declared.held_key.Key.{Key}
use Rattle.sak_exchange.proofs.Public.{by_test}
use Rattle.mka_station.specs.declared.reaction.Reaction.{Reaction}
use Rattle.mka_station.specs.declared.verdict.DropReason.{DropReason}
use Rattle.mka_station.specs.Lives.{Member, Entry, Setup}
use Rattle.mka_station.specs.Announcing.{frame_of}
use Rattle.mka_station.specs.Hearing.{judged, right, heard_turn, frame_turn}
use Rattle.mka_station.specs.Restart.{ending}
use Rattle.mka_station.specs.Tick.{tick_turn}
use Rattle.mka_station.specs.Tick.{says_at}
use Rattle.lan_core.specs.declared.event.Event.{Event}
use Rattle.lan_core.specs.declared.event.Event.TheVariants as events
use Rattle.lan_core.specs.declared.fact.Fact.{Fact}
use Rattle.lan_core.specs.declared.fact.Fact.TheVariants as facts
use Rattle.lan_core.specs.declared.settings.Settings.{Settings}
use Rattle.lan_core.specs.Run.{Run, Happening, Profile, stations}
use Rattle.lan_core.specs.Ledgers.{Frame, framed, air, gather, next_frame}
use Rattle.lan_core.specs.Lives.{Life, life, seen_at, sak_in, setup_of}
use Rattle.lan_core.specs.Claims.{Waiting, waiting, user_at, frame_by, frame_of_claim, claimed}
use Rattle.lan_core.specs.Expected.{claim_fact, number_fact, reached_facts}
use Rattle.lan_core.specs.Order.{ticks, IsSendable}
use Rattle.lan_core.specs.Types.{IsSetting, IsUserFrame, IsSecret}
use Rattle.lan_core.specs.Legal.{IsStep, IsStepped}
use Rattle.lan_core.specs.Fresh.{IsUnforged, IsUnforgedBy, repeats}
use Rattle.group_safety.specs.Moments.{upto, At}
use Rattle.group_safety.proofs.Members.{in-any, any-in, In, by_sum}
use Rattle.group_safety.proofs.once.Living.{IsKnown, IsLiving}
use Rattle.group_safety.proofs.once.RunLaws.{known}
use Rattle.group_safety.proofs.once.Carried.{IsCarried, carried-more, carried-heard, repeated-heard}
use Rattle.group_safety.proofs.once.Carried.{judged-read, ok-same}
use Rattle.group_safety.proofs.once.ClaimKept.{protected-is_sec}
use Rattle.group_safety.proofs.once.ReachKept.{right-some, unforged-repeats}
use Rattle.group_safety.proofs.once.TickKept.{speaker-of}
use Rattle.group_safety.proofs.once.Ticking.{said-spells, tick-sound, tick_key, IsReady, turn-sent}
use Rattle.group_safety.proofs.once.EventsKeepKnown.{seen-small, tick-gist, drawn-secret}
use Rattle.group_safety.proofs.once.Gists.{IsGist, installed_at, sent_frame}
use Rattle.group_safety.proofs.once.Nexts.{in-get, mapped, chained}
use Rattle.group_safety.proofs.once.LiveHeard.{in-find}
use Rattle.group_safety.proofs.once.Hearing.{hear-silent}
use Rattle.group_safety.proofs.rollover.AtMoments.{along, to-upto, length-upto}
use Rattle.group_safety.proofs.rollover.TurnFacts.{reacts, Reacts}
use Rattle.group_safety.proofs.rollover.TurnFacts as from
use Rattle.group_safety.proofs.rollover.EventKinds.{Kind, kind, IsReached}
use Rattle.group_safety.proofs.rollover.EventKinds as kinds
use Rattle.group_safety.proofs.rollover.OneLife.{step-at}
use Rattle.lan_base.specs.Differing.{AllDiffer}
use Rattle.lan_base.specs.Ranges.{most_ticks}
use Rattle.lan_core.specs.Fresh.{drawn_mis}

-- a station says an announcement at a tick, which is an event of the run
pub record Said (settings : Settings) (run : Run) (z t : ℕ) (a : Announcement) : Type 0 where
  pub event : Happening
  pub at : At run z event
  pub within : z < length run
  pub next : ℕ
  pub tick : event.event ≡ events.Tick t next
  pub life_then : Life
  pub living : life settings t (upto z run) ≡ Some life_then
  pub said : says_at life_then.member (seen_at settings t (upto z run) life_then next)
      (sak_in event.facts) life_then.past ≡ Some a

-- a station said it before a moment
abbrev SaidBefore : Settings → Run → ℕ → Announcement → Type 0
SaidBefore settings run n a = (z t : ℕ) × (z < n) × Said settings run z t a

-- a frame on the air is a protected one, or spells what a station said before a moment
abbrev pub IsAired : Settings → Run → ℕ → List ℕ → Type 0
IsAired settings run n octets = IsCarried (SaidBefore settings run n) octets

aired-later : (settings : Settings) (run : Run) (n m : ℕ) (octets : List ℕ) → n ≤ m
    → IsAired settings run n octets → IsAired settings run m octets
aired-later settings run n m octets less aired =
    carried-more (SaidBefore settings run n) (SaidBefore settings run m) octets
    (λ a s. let before = s.2 in (s.0, s.1, omega (arith, less, before), s.3)) aired

-- ---- the frames that an event puts on the air

pub in-framed : (f : List Fact) (fs : List Frame) (y : Frame) → In y (gather framed f fs)
    → In y fs ⊎ ((n s : ℕ) × (sec : Bool) × (o : List ℕ) × In (facts.Framed n s sec o) f ×
    (y.octets ≡ o))
in-framed [] fs y i = inl i
in-framed (facts.Framed n s sec o ∷ later) fs y i =
    by_sum (in-framed later (record { number = n; station = s; sec = sec; octets = o } ∷ fs) y i)
    (λ a. elim a [
      | inl e ↦ inr (n, s, sec, o, inl refl, ap (λ (w : Frame). w.octets) e)
      | inr j ↦
          inl j
    ])
    (λ b. inr (b.0, b.1, b.2, b.3, inr b.4, b.5))
in-framed (fact ∷ later) fs y i =
    by_sum (in-framed later fs y i) (λ a. inl a) (λ b. inr (b.0, b.1, b.2, b.3, inr b.4, b.5))

-- what was framed, and by whom
pub data Frames (settings : Settings) (users : List UserFrame) (r : Run) (e : Event)
    (shown : List Fact) (t : ℕ) (sec : Bool) (octets : List ℕ) : Type 0 where
  says : (next : ℕ) (l : Life) (a : Announcement) → sec ≡ false → e ≡ events.Tick t next
      → life settings t r ≡ Some l
      → says_at l.member (seen_at settings t r l next) (sak_in shown) l.past ≡ Some a
      → octets ≡ frame_of l.member.setup a
      → Frames settings users r e shown t sec octets
  emits : (w : Waiting) → sec ≡ true → e ≡ events.Emit → waiting settings r ≡ Some w
      → frame_of_claim users r w ≡ Some octets → w.station ≡ t
      → Frames settings users r e shown t sec octets

reacts-frames : (s h n k t : ℕ) (sec : Bool) (octets : List ℕ) (re : Reaction)
    → Reacts s h n re (facts.Framed k t sec octets)
    → (sec ≡ false) × (t ≡ s) × (re.sent ≡ Some octets)
reacts-frames s h n k t sec octets re (from.hears v e) = absurd (cc (e))
reacts-frames s h n k t sec octets re (from.serves m e) = absurd (cc (e))
reacts-frames s h n k t sec octets re (from.alters (changes.Dropped key) i e) = absurd (cc (e))
reacts-frames s h n k t sec octets re (from.alters (changes.Retired key) i e) = absurd (cc (e))
reacts-frames s h n k t sec octets re (from.alters (changes.Began key cause) i e) = absurd (cc (e))
reacts-frames s h n k t sec octets re (from.alters (changes.Installed key) i e) = absurd (cc (e))
reacts-frames s h n k t sec octets re (from.alters (changes.Untaken id why) i e) = absurd (cc (e))
reacts-frames s h n k t sec octets re (from.sends o is e) = (
  let f : sec ≡ false = cc (e) in f,
  let f : t ≡ s = cc (e) in f,
  is
      ∙ (let f : octets ≡ o = cc (e) in ap Some (sym f)),
)

heard-silent : (m : Member) (j : Result Announcement DropReason) (p : List Entry)
    → (heard_turn m j p).reaction.sent ≡ None
heard-silent m (Ok a) p = hear-silent m a p
heard-silent m (Err reason) p = refl

ended-silent : (m : Member) (p : List Entry) → (ending m p).sent ≡ None
unfolding ending
ended-silent m p = refl

reached-frames : (settings : Settings) (r : Run) (t number : ℕ) (octets : List ℕ) (l : Life)
    (k s : ℕ) (sec : Bool) (o : List ℕ)
    → In (facts.Framed k s sec o) (reached_facts settings t r number octets l) → ⊥
reached-frames settings r t number octets l k s sec o i =
    by_test (is_sec octets)
    (λ y. elim (rw y at i) [ inl f ↦ cc (f) | inr none ↦ none ])
    (λ y. let b = reacts-frames t number 0 k s sec o (frame_turn l.member octets l.past).reaction
    (reacts t number 0 (frame_turn l.member octets l.past).reaction (facts.Framed k s sec o)
    (rw y at i)) in
    let none = heard-silent l.member (judged l.member.setup octets) l.past in let f = sym none
    ∙ b.2 in cc (f))

claim-frames : (settings : Settings) (r : Run) (t k s : ℕ) (sec : Bool) (o : List ℕ) (pn : ℕ)
    (key : Option Key)
    → facts.Framed k s sec o ≡ claim_fact settings t r pn key → ⊥
claim-frames settings r t k s sec o pn key =
    by_test (pn == 0) (λ y. rw y (λ f. cc (f))) (λ y. rw y (go key))
  where
    go : (key : Option Key) → facts.Framed k s sec o ≡ number_fact t pn key → ⊥
    go None f = cc (f)
    go (Some j) f = cc (f)

pub frames-by : (settings : Settings) (users : List UserFrame) (r : Run) (e : Event)
    (shown : List Fact) (k t : ℕ) (sec : Bool) (octets : List ℕ)
    → Kind settings users r e shown → In (facts.Framed k t sec octets) shown
    → Frames settings users r e shown t sec octets
frames-by settings users r e shown k t sec octets (kinds.starts name sci priority mi ev is) i =
    elim (subst (λ w. In (facts.Framed k t sec octets) w) is i) [
      | inl f ↦ absurd
          (cc (f))
      | inr none ↦ absurd none
    ]
frames-by settings users r e shown k t sec octets (kinds.ticks s next l ev living is) i =
    elim (subst (λ w. In (facts.Framed k t sec octets) w) is i) [
      | inl f ↦ absurd (cc (f))
      | inr j ↦
          let seen = seen_at settings s r l next in
          let sak = sak_in shown in
          let b = reacts-frames s 0 (next_frame r) k t sec octets
          (tick_turn l.member seen sak l.past).reaction
          (reacts s 0 (next_frame r) (tick_turn l.member seen sak l.past).reaction
          (facts.Framed k t sec octets) j) in
          let m = mapped (frame_of l.member.setup) (says_at l.member seen sak l.past) octets
          (sym (turn-sent l.member seen sak l.past) ∙ b.2) in
          let mine : life settings t r ≡ Some l =
          subst (λ v. life settings v r ≡ Some l) (sym b.1) living in
          says next l m.0 b.0 (ev ∙ ap (λ v. events.Tick v next) (sym b.1)) mine
          (subst (λ v. says_at l.member (seen_at settings v r l next) sak l.past ≡ Some m.0)
          (sym b.1) m.1) (sym m.2)
    ]
frames-by settings users r e shown k t sec octets (kinds.reached s number o l came living is) i =
    absurd (reached-frames settings r s number o l k t sec octets
    (subst (λ w. In (facts.Framed k t sec octets) w) is i))
frames-by settings users r e shown k t sec octets (kinds.restarts s mi l ev drawn living is) i =
    elim (subst (λ w. In (facts.Framed k t sec octets) w) is i) [
      | inl f ↦ absurd (cc (f))
      | inr j ↦
          let b = reacts-frames s 0 0 k t sec octets (ending l.member l.past)
          (reacts s 0 0 (ending l.member l.past) (facts.Framed k t sec octets) j) in
          let f = sym (ended-silent l.member l.past) ∙ b.2 in absurd (cc (f))
    ]
frames-by settings users r e shown k t sec octets (kinds.claims s user pn ev is) i =
    elim (subst (λ w. In (facts.Framed k t sec octets) w) is i) [
      | inl f ↦ absurd (claim-frames settings r s k t sec octets pn _ f)
      | inr none ↦ absurd none
    ]
frames-by settings users r e shown k t sec octets (kinds.emits w ev waits is) i =
    let m = mapped (λ o. facts.Framed (next_frame r) w.station true o ∷ [])
    (frame_of_claim users r w) shown is in
    elim (subst (λ v. In (facts.Framed k t sec octets) v) (sym m.2) i) [
      | inl f ↦ emits w (let g : sec ≡ true = cc (f) in g) ev waits
          (m.1 ∙ (let g : octets ≡ m.0 = cc (f) in ap Some (sym g)))
          (let g : t ≡ w.station = cc (f) in sym g)
      | inr none ↦ absurd none
    ]

-- ---- over a run

module _ (settings : Settings) (users : List UserFrame) (run : Run) (is : IsSetting settings)
    (stepped : IsStepped settings users run) (unforged : IsUnforged settings run)
    (fresh : AllDiffer (drawn_mis run)) where
  step-of : (n : ℕ) (x : Happening) → n < length run → At run n x
      → IsStep settings users x (upto n run)
  step-of n x high at = step-at settings users run stepped fresh n x high at

  pub known-at : (n : ℕ) → IsKnown settings users (upto n run)
  known-at n =
      known settings users (upto n run)
      (to-upto (IsStepped settings users) (λ y r s. s.1) n run stepped)
      (to-upto (IsUnforged settings) (λ y r s. s.1) n run unforged)

  -- what is said is spelled by the frame
  pub spelled-so : (n : ℕ) (x : Happening) (t next : ℕ) (l : Life) (a : Announcement)
      → n < length run → At run n x → x.event ≡ events.Tick t next
      → life settings t (upto n run) ≡ Some l
      → says_at l.member (seen_at settings t (upto n run) l next) (sak_in x.facts) l.past
      ≡ Some a
      → Spells (frame_of l.member.setup a) a (length (written a))
      (cmac l.member.setup.ick (written a))
  spelled-so n x t next l a high at ev living said =
      let r = upto n run in
      let step = step-of n x high at in
      let k = known-at n in
      let v : IsLiving settings r t l = k.living t l living in
      let seen = seen_at settings t r l next in
      let sak = sak_in x.facts in
      let more : ticks (x ∷ r) ≤ most_ticks = step.within.ticks in
      let count : ticks (x ∷ r) ≡ 1 + ticks r =
      ap (λ e. Rattle.lan_core.specs.Order.ticks_of e + ticks r) ev in
      let ready : IsReady l.member l.past (ticks r) =
      record { mi = v.mi; keys = v.keys; few = omega arith } in
      let speaker = speaker-of settings users r t l is k.plain v in
      let shown = tick-shown n x t next l high at ev living in
      let g = subst (λ w. IsGist w [] (installed_at t (tick_key l.member seen sak l.past))
      (sent_frame (next_frame r) t (option_map (frame_of l.member.setup)
      (says_at l.member seen sak l.past))) []) (sym shown)
      (tick-gist settings t r next sak l) in
      let allowed = subst (λ e. Rattle.lan_core.specs.Order.IsAllowed settings users r x e) ev
      step.in_order.1 in
      let secret : (j : Key) → tick_key l.member seen sak l.past ≡ Some j → IsSecret sak =
      drawn-secret settings x.facts t (tick_key l.member seen sak l.past) g allowed.2 in
      let sound = tick-sound l.member seen sak l.past (ticks r) ready secret in
      said-spells l.member seen sak l.past (ticks r) a ready speaker
      (seen-small settings t r l next) sound said
    where
      tick-shown : (n : ℕ) (x : Happening) (t next : ℕ) (l : Life) → n < length run → At run n x
          → x.event ≡ events.Tick t next → life settings t (upto n run) ≡ Some l
          → x.facts ≡ Rattle.lan_core.specs.Expected.tick_facts settings t (upto n run) next
          (sak_in x.facts) l
      tick-shown n x t next l high at ev living =
          elim (kind settings users x (upto n run) (step-of n x high at)) [
            | kinds.starts name sci priority mi e q ↦ absurd (cc (e, ev))
            | kinds.ticks s m j e there q ↦
                let same_s : s ≡ t = let f = sym e ∙ ev in cc (f) in
                let same_m : m ≡ next = let f = sym e ∙ ev in cc (f) in
                let mine : life settings t (upto n run) ≡ Some j =
                subst (λ v. life settings v (upto n run) ≡ Some j) same_s there in
                let same_l : j ≡ l = let f = sym mine ∙ living in cc (f) in
                q ∙ ap (λ v. Rattle.lan_core.specs.Expected.tick_facts settings v (upto n run) m
                (sak_in x.facts) j) same_s
                ∙ ap (λ v. Rattle.lan_core.specs.Expected.tick_facts settings t (upto n run) v
                (sak_in x.facts) j) same_m
                ∙ ap (λ v. Rattle.lan_core.specs.Expected.tick_facts settings t (upto n run) next
                (sak_in x.facts) v) same_l
            | kinds.reached s number o j (kinds.delivered f w oo e) there q ↦ absurd (cc (e, ev))
            | kinds.reached s number o j (kinds.injected z e) there q ↦ absurd (cc (e, ev))
            | kinds.restarts s mi j e drawn there q ↦ absurd (cc (e, ev))
            | kinds.claims s user pn e q ↦ absurd (cc (e, ev))
            | kinds.emits w e waits q ↦ absurd (cc (e, ev))
          ]

  -- a protected frame
  sec-so : (n : ℕ) (w : Waiting) (octets : List ℕ) → waiting settings (upto n run) ≡ Some w
      → frame_of_claim users (upto n run) w ≡ Some octets → is_sec octets ≡ true
  sec-so n w octets waits sent =
      let r = upto n run in
      let k = known-at n in
      let p = chained (λ p. option_map (frame_by w p) (user_at users w.user))
      (slice_get (stations r) w.station) octets sent in
      let u = mapped (frame_by w p.0) (user_at users w.user) octets p.2 in
      let sends : IsUserFrame u.0 = subst IsSendable u.1
      (k.plain.sendable w (in-get (claimed settings r) _ w waits)) in
      subst (λ o. is_sec o ≡ true) u.2
      (protected-is_sec (secret_octets w.key.sak) p.0.sci w.key.an w.pn w.key.conf u.0
      (k.plain.typed p.0 (in-get (stations r) w.station p.0 p.1)).count sends.destination.0)

  framed-aired : (n : ℕ) (x : Happening) (k t : ℕ) (sec : Bool) (octets : List ℕ) → n < length run
      → At run n x → In (facts.Framed k t sec octets) x.facts
      → IsAired settings run (suc n) octets
  framed-aired n x k t sec octets high at i =
      elim (frames-by settings users (upto n run) x.event x.facts k t sec octets
      (kind settings users x (upto n run) (step-of n x high at)) i) [
        | says next l a s ev living said o ↦ inr (record {
          says = a;
          covered = length (written a);
          check = cmac l.member.setup.ick (written a);
          spells = subst (λ v. Spells v a (length (written a))
              (cmac l.member.setup.ick (written a))) (sym o)
              (spelled-so n x t next l a high at ev living said);
          told = (
            n,
            t,
            omega arith,
            record {
              event = x;
              at = at;
              within = high;
              next = next;
              tick = ev;
              life_then = l;
              living = living;
              said = said;
            },
          );
        })
        | emits w s ev waits o st ↦ inl (sec-so n w octets waits o)
      ]

  -- every frame on the air is a protected one, or was said
  pub aired : (n : ℕ) → n ≤ length run → (y : Frame) → In y (air (upto n run))
      → IsAired settings run n y.octets
  unfolding air
  aired n high =
      let found = along (λ r. (y : Frame) → In y (air r)
      → IsAired settings run (length r) y.octets) run n high (λ y i. absurd i)
      (λ m x p at h y i. let long = length-upto m run (omega arith) in
      by_sum (in-framed x.facts (air (upto m run)) y i)
      (λ a. aired-later settings run (length (upto m run)) (suc (length (upto m run))) y.octets
      (omega arith) (h y a))
      (λ b. aired-later settings run (suc m) (suc (length (upto m run))) y.octets (omega arith)
      (subst (λ o. IsAired settings run (suc m) o) (sym b.5)
      (framed-aired m x b.0 b.1 b.2 b.3 (omega arith) at b.4)))) in
      λ y i. aired-later settings run (length (upto n run)) n y.octets
      (let long = length-upto n run high in omega arith) (found y i)

  -- What reaches a station and is judged right was said.
  pub reached-said : (n : ℕ) (x : Happening) (s number : ℕ) (octets : List ℕ) (l : Life)
      (a : Announcement) → n < length run → At run n x
      → IsReached (upto n run) x.event s number octets → life settings s (upto n run) ≡ Some l
      → judged l.member.setup octets ≡ Ok a
      → (z t : ℕ) × (z < n) × Said settings run z t a
  reached-said n x s number octets l a high at (kinds.delivered f there same ev) living judge =
      let read = judged-read l.member.setup octets a judge in
      let y = aired n (omega arith) f
      (in-find (λ y. y.number == number) (air (upto n run)) f there) in
      let r = (carried-heard (SaidBefore settings run n) octets read.0
      (subst (λ o. IsAired settings run n o) same y) read.1).told in
      (r.0, r.1, r.2, subst (Said settings run r.0 r.1) read.2 r.3)
  reached-said n x s number octets l a high at (kinds.injected zero_is ev) living judge =
      let r = upto n run in
      let read = judged-read l.member.setup octets a judge in
      let k = known-at n in
      let v : IsLiving settings r s l = k.living s l living in
      let here : judged (setup_of settings v.profile) octets ≡ Ok a =
      subst (λ w. judged w octets ≡ Ok a) v.setup judge in
      let right_one = in-any (λ p. is_some (right (setup_of settings p) octets))
      (stations r) v.profile (in-get (stations r) s v.profile v.place)
      (right-some (setup_of settings v.profile) octets a here) in
      let honest = subst (λ e. IsUnforgedBy settings r e) ev
      (subst (IsUnforged settings) at
      (to-upto (IsUnforged settings) (λ y w u. u.1) (suc n) run unforged)).0 in
      let one = any-in (repeats octets) (air r)
      (unforged-repeats settings r octets honest right_one) in
      let step = step-of n x high at in
      let small = (subst (λ e. Rattle.lan_core.specs.Types.IsTyped e) ev step.in_order.0).1 in
      let found = (repeated-heard (SaidBefore settings run n) octets one.0.octets read.0 small read.1
      (aired n (omega arith) one.0 one.1) one.2).told in
      (found.0, found.1, found.2, subst (Said settings run found.0 found.1) read.2 found.3)

  right-judged : (setup : Setup) (octets : List ℕ) (a : Announcement) → right setup octets ≡ Some a
      → judged setup octets ≡ Ok a
  right-judged setup octets a e = go (judged setup octets) refl
    where
      go : (j : Result Announcement DropReason) → judged setup octets ≡ j → judged setup octets
          ≡ Ok a
      go (Ok b) j = let f : Some b ≡ Some a =
          sym (ap (λ (w : Result Announcement DropReason). elim w [
            | Ok v ↦ Some v
            | Err reason ↦
                None
          ]) j)
          ∙ e in j ∙ (let g : b ≡ a = cc (f) in ap Ok g)
      go (Err reason) j = let f : None ≡ Some a =
          sym (ap (λ (w : Result Announcement DropReason). elim w [
            | Ok v ↦ Some v
            | Err reason ↦
                None
          ]) j)
          ∙ e in absurd (cc (f))

  -- what a frame of key agreement spells, its station said
  pub framed-said : (n : ℕ) (x : Happening) (k t : ℕ) (octets : List ℕ) (p : Profile)
      (a : Announcement) → n < length run → At run n x
      → In (facts.Framed k t false octets) x.facts → right (setup_of settings p) octets ≡ Some a
      → Said settings run n t a
  framed-said n x k t octets p a high at i spelled =
      elim (frames-by settings users (upto n run) x.event x.facts k t false octets
      (kind settings users x (upto n run) (step-of n x high at)) i) [
        | says next l b s ev living said o ↦
            let spells = subst (λ v. Spells v b (length (written b))
            (cmac l.member.setup.ick (written b))) (sym o)
            (spelled-so n x t next l b high at ev living said) in
            let again = read_again octets b (length (written b))
            (cmac l.member.setup.ick (written b)) spells in
            let read = judged-read (setup_of settings p) octets a
            (right-judged (setup_of settings p) octets a spelled) in
            let same = ok-same (reading octets) _ read.0 again read.1 in
            let is_a : b ≡ a = ap (λ (x : Spelled). x.announcement) same ∙ read.2 in
            record {
              event = x;
              at = at;
              within = high;
              next = next;
              tick = ev;
              life_then =
                  l;
              living = living;
              said = said ∙ ap Some is_a;
            }
        | emits w s ev waits o st ↦ absurd (cc (s))
      ]
