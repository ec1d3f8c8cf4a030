-- What the receive slots of a station answered to a frame as far as its tag stays, while protected
-- frames reach stations.
use Rattle.std.proofs.Common.{◌≡◌, ◌∙◌, ℕ, Bool, true, false, cond, List, [], ◌∷◌, ◌++◌, Option, Some, None, refl, ap, sym}
use Rattle.std.specs.Prelude.{◌==◌, option_map, option_and_then, slice_get}
use Rattle.std.specs.List.{find}
use Rattle.lan_base.specs.declared.address.Sci.{Sci}
use Rattle.lan_base.specs.declared.association_number.AssociationNumber.{AssociationNumber}
use Rattle.lan_base.specs.declared.frame.UserFrame.{UserFrame}
use Rattle.aes_block.specs.declared.secret.Secret.{Secret}
use Rattle.aes_block.specs.declared.secret.Secret.TheVariants.{S128}
use Rattle.gcm_frames.specs.Tags.{is_sec}
use Rattle.rx_slots.specs.declared.arrival.Checked.{Checked}
use Rattle.rx_slots.specs.Answers.{checked}
use Rattle.rx_slots.specs.Histories.{Receiving, heard, standing_key}
use Rattle.rx_slots.specs.Numbers.{answer}
use Rattle.mka_station.specs.Hearing.{frame_turn}
use Rattle.lan_core.specs.declared.event.Event.{Event}
use Rattle.lan_core.specs.declared.event.Event.TheVariants as events
use Rattle.lan_core.specs.declared.fact.Fact.{Fact}
use Rattle.lan_core.specs.declared.fact.Fact.TheVariants.{Arrived}
use Rattle.lan_core.specs.declared.settings.Settings.{Settings}
use Rattle.lan_core.specs.Run.{Run, Happening, Profile, started}
use Rattle.lan_core.specs.Ledgers.{Frame, air, collect, framed, gather}
use Rattle.lan_core.specs.Lives.{Life, life, receiving, reaches, slot_change, with_data}
use Rattle.lan_core.specs.Expected.{Drawn, expected, reached_facts, reaction_facts}
use Rattle.lan_core.specs.Batches.{BringsData, IsBatch, IsChecked, checked_at}
use Rattle.lan_core.proofs.CarriedOver.{no-station}
use Rattle.lan_core.proofs.FramesNumbered.{mapped}

-- a frame that is heard changes no key
heard-keys : (o : Option (List ℕ)) (h : List Receiving) → standing_key (with_data o h) ≡ standing_key h
heard-keys None h = refl
heard-keys (Some octets) h = go (is_sec octets)
  where
    go : (b : Bool) → standing_key (cond b (heard octets ∷ h) h) ≡ standing_key h
    go true = refl
    go false = refl

any : Drawn
any = record { mi = None; sak = S128 [] }

-- what a protected frame shows
shows-arrival : (settings : Settings) (s : ℕ) (r : Run) (number : ℕ) (octets : List ℕ) (l : Life) (shown : List Fact)
    → is_sec octets ≡ true → reached_facts settings s r number octets l ≡ shown
    → shown ≡ Arrived number s (answer l.member.setup.sci settings.window (receiving s r) octets) ∷ []
shows-arrival settings s r number octets l shown sec is =
    sym is ∙ ap (λ (b : Bool). cond b
    (Arrived number s (answer l.member.setup.sci settings.window (receiving s r) octets) ∷ [])
    (reaction_facts s number 0 (frame_turn l.member octets l.past).reaction)) sec

-- it shows that it arrived, and nothing else
shows-one : (settings : Settings) (users : List UserFrame) (r : Run) (x : Happening) (b : BringsData settings users r x)
    → (l : Life) × (x.facts
    ≡ Arrived b.number b.station (answer l.member.setup.sci settings.window (receiving b.station r) b.frame.octets) ∷ [])
unfolding expected
shows-one settings users r x b =
    let n = b.number in
    let t = b.station in
    let shows : expected settings users r (events.Deliver n t) any ≡ Some x.facts =
    ap (λ (e : Event). expected settings users r e any) (sym b.event) ∙ b.shows any in
    let found : option_map (reached_facts settings t r n b.frame.octets) (life settings t r) ≡ Some x.facts =
    ap (λ (o : Option Frame). option_and_then
    (λ (f : Frame). option_map (reached_facts settings t r n f.octets) (life settings t r)) o) (sym b.found) ∙ shows in
    let l = mapped (reached_facts settings t r n b.frame.octets) (life settings t r) x.facts found in
    (l.0, shows-arrival settings t r n b.frame.octets l.0 x.facts b.protected l.2)

-- so it changes no key
brings-keys : (settings : Settings) (users : List UserFrame) (r : Run) (x : Happening) → BringsData settings users r x → (s : ℕ)
    → standing_key (receiving s (x ∷ r)) ≡ standing_key (receiving s r)
unfolding receiving
brings-keys settings users r x b s =
    ap (λ (fs : List Fact). standing_key (gather (slot_change s) fs (with_data (reaches s r x.event) (receiving s r))))
    (shows-one settings users r x b).1
    ∙ heard-keys (reaches s r x.event) (receiving s r)

batch-keys : (settings : Settings) (users : List UserFrame) (r batch : Run) → IsBatch settings users r batch → (s : ℕ)
    → standing_key (receiving s (batch ++ r)) ≡ standing_key (receiving s r)
batch-keys settings users r [] are s = refl
batch-keys settings users r (x ∷ earlier) are s =
    brings-keys settings users (earlier ++ r) x are.0 s ∙ batch-keys settings users r earlier are.1 s

pub checks-stay : (settings : Settings) (users : List UserFrame) (r batch : Run) → IsBatch settings users r batch
    → (s : ℕ) (own : Sci) (octets : List ℕ) → checked_at s (batch ++ r) own octets ≡ checked_at s r own octets
checks-stay settings users r batch are s own octets =
    ap (λ (keys : AssociationNumber → Option Secret). checked own keys octets) (batch-keys settings users r batch are s)

-- ---- what may be admitted before a batch may be admitted later in it

same-air : (settings : Settings) (users : List UserFrame) (r : Run) (x : Happening) → BringsData settings users r x
    → air (x ∷ r) ≡ air r
unfolding air
same-air settings users r x b =
    ap (λ (fs : List Fact). gather framed fs (collect framed r)) (shows-one settings users r x b).1

checked-after : (settings : Settings) (users : List UserFrame) (r : Run) (x : Happening) → BringsData settings users r x
    → (number s : ℕ) (a : Checked) → IsChecked r number s a → IsChecked (x ∷ r) number s a
checked-after settings users r x b number s a c = record {
  frame = c.frame;
  found = ap (λ (fs : List Frame). find (λ (f : Frame). f.number == number) fs) (same-air settings users r x b) ∙ c.found;
  protected = c.protected;
  profile = c.profile;
  station = ap (λ (ps : List Profile). slice_get ps s) (no-station x r (ap started b.event)) ∙ c.station;
  is = c.is ∙ ap (λ (keys : AssociationNumber → Option Secret). checked c.profile.sci keys c.frame.octets)
      (sym (brings-keys settings users r x b s));
}

pub checked-later : (settings : Settings) (users : List UserFrame) (r batch : Run) → IsBatch settings users r batch
    → (number s : ℕ) (a : Checked) → IsChecked r number s a → IsChecked (batch ++ r) number s a
checked-later settings users r [] are number s a c = c
checked-later settings users r (x ∷ earlier) are number s a c =
    checked-after settings users (earlier ++ r) x are.0 number s a (checked-later settings users r earlier are.1 number s a c)
