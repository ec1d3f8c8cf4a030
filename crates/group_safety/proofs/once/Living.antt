-- What holds of the current life of a station, and of the run as a whole.
use Rattle.std.proofs.Common.{◌≡◌, ◌<◌, ◌≤◌, sym, subst, ℕ, List, ◌∷◌, length, map, Some}
use Rattle.std.proofs.Common.{arith}
use Rattle.std.specs.Prelude.{slice_get}
use Rattle.lan_base.specs.declared.frame.UserFrame.{UserFrame}
use Rattle.aes_block.specs.Secrets.{secret_octets}
use Rattle.aes_block.specs.Aes.{IsKey as IsCipherKey}
use Rattle.gcm_frames.specs.Protected.{IsSci}
use Rattle.mka_kdf.specs.Kdf.{kek_of}
use Rattle.mkpdu_codec.specs.declared.announcement.Announcement.{Announcement}
use Rattle.peer_lists.specs.Histories.{last_sent}
use Rattle.sak_exchange.specs.declared.held_key.Key.{Key}
use Rattle.sak_exchange.specs.Histories as keying
use Rattle.mka_station.specs.Lives.{peers_of}
use Rattle.lan_core.specs.declared.settings.Settings.{Settings}
use Rattle.lan_core.specs.Run.{Run, Happening, Profile, started, stations}
use Rattle.lan_core.specs.Ledgers.{Birth, births, Install, installs, Frame, air, Claim, claims}
use Rattle.lan_core.specs.Lives.{Life, life, keys_in, setup_of}
use Rattle.lan_core.specs.Claims.{next, Waiting, claimed, user_at}
use Rattle.lan_core.specs.Order.{ticks, IsSendable}
use Rattle.lan_core.specs.Types.{IsSetting}
use Rattle.lan_base.specs.Differing.{AllDiffer}
use Rattle.lan_core.specs.Fresh.{drawn_saks}
use Rattle.group_safety.specs.Once.{makes}
use Rattle.group_safety.proofs.Members.{In, in-right}
use Rattle.group_safety.proofs.once.Ledgers.{Book, Change, book, AreAllowed}
use Rattle.group_safety.proofs.once.Histories.{heard_of, deeds}
use Rattle.group_safety.proofs.once.KeysSound.{AreSound, sound-more}
use Rattle.group_safety.proofs.once.Ciphers.{kek-is-key, ick-is-key}
use Rattle.group_safety.proofs.once.Frames.{IsRanged}
use Rattle.group_safety.proofs.once.Rules.{said_by}
use Rattle.group_safety.proofs.once.Origins.{IsSaid, said-later}
use Rattle.group_safety.proofs.once.Carried.{IsCarried}
use Rattle.group_safety.proofs.once.Gists.{IsGist}
use Rattle.group_safety.proofs.once.Nexts.{installs-next, stations-next, ticks-more, get-more}
use Rattle.group_safety.proofs.once.Books.{plains, plain_makes}

-- the key encrypting key of the group
abbrev pub group_kek : Settings → List ℕ
group_kek settings = kek_of (secret_octets settings.cak) settings.ckn

-- the install of a key at a station
abbrev pub install_by : ℕ → Key → Install
install_by s k = record { station = s; id = k.id; an = k.an; epoch = k.epoch; sak = k.sak }

pub record IsLiving (settings : Settings) (r : Run) (s : ℕ) (l : Life) : Type 0 where
  pub profile : Profile
  pub place : slice_get (stations r) s ≡ Some profile
  pub setup : l.member.setup ≡ setup_of settings profile
  pub mi : length l.member.mi.0 ≡ 12
  pub keys : AreSound l.member.base l.member.mi (ticks r) (keys_in l)
  pub sent : last_sent (peers_of l.member l.past) ≤ ticks r
  pub heard : (a : Announcement) → In a (heard_of l.past) → IsRanged a
  pub origins : (a : Announcement) → In a (heard_of l.past) → IsSaid settings r a
  pub backed : (k : Key) → In k (keying.installs (keys_in l)) → In (install_by s k) (installs r)

-- what is known of an announcement on the air: it was said, and that is in the book
pub record IsTold (settings : Settings) (b : Book) (r : Run) (a : Announcement) : Type 0 where
  pub said : In (said_by (group_kek settings) a) b.spoken
  pub origin : IsSaid settings r a

-- a book shows a run
pub record Shows (settings : Settings) (b : Book) (r : Run) : Type 0 where
  pub births : b.births ≡ births r
  pub installs : plains b ≡ installs r
  pub makes : plain_makes b ≡ makes r
  pub claims : b.claims ≡ claims r
  pub air : (f : Frame) → In f (air r) → IsCarried (IsTold settings b r) f.octets
  pub lives : (s : ℕ) (l : Life) → life settings s r ≡ Some l → b.life s ≡ Some (deeds l)

-- what holds of the stations, of the draws and of the claims that wait
pub record IsPlain (settings : Settings) (users : List UserFrame) (r : Run) : Type 0 where
  pub typed : (p : Profile) → In p (stations r) → IsSci p.sci
  pub apart : AllDiffer (map (λ p. p.sci) (stations r))
  pub placed : (b : Birth) → In b (births r) → b.station < length (stations r)
  pub drawn : map (λ i. secret_octets i.sak) (makes r) ≡ drawn_saks r
  pub sendable : (w : Waiting) → In w (claimed settings r) → IsSendable (user_at users w.user)
  pub below : (c : Claim) → In c (claims r) → c.pn < next settings c.station c.epoch r

-- there are allowed changes that show the run
pub record IsKnown (settings : Settings) (users : List UserFrame) (r : Run) : Type 0 where
  pub changes : List Change
  pub allowed : AreAllowed changes
  pub shows : Shows settings (book changes) r
  pub living : (s : ℕ) (l : Life) → life settings s r ≡ Some l → IsLiving settings r s l
  pub plain : IsPlain settings users r

-- a life of a station to which nothing happens goes on
pub living-later : (settings : Settings) (x : Happening) (r : Run) (s : ℕ) (l : Life)
    {bs : List Birth}
    {is : List Install} {fs : List Frame} {cs : List Claim} → IsGist x.facts bs is fs cs
    → IsLiving settings r s l → IsLiving settings (x ∷ r) s l
living-later settings x r s l {bs} {is} {fs} {cs} g v =
    let sent = v.sent in let more = ticks-more x r in record {
      profile = v.profile;
      place = subst (λ w. slice_get w s ≡ Some v.profile) (sym (stations-next x r))
          (get-more (stations r) (started x.event) s v.profile v.place);
      setup = v.setup;
      mi = v.mi;
      keys = sound-more l.member.base l.member.mi (ticks r) (ticks (x ∷ r)) (keys_in l)
          (ticks-more x r) v.keys;
      sent = omega (arith, sent, more);
      heard = v.heard;
      origins = λ a i. said-later settings x r a (v.origins a i);
      backed = λ k i. subst (λ w. In (install_by s k) w) (sym (installs-next x r g))
          (in-right is (installs r) (install_by s k) (v.backed k i));
    }

-- ---- the group's keys

pub kek-key : (settings : Settings) → IsSetting settings → IsCipherKey (group_kek settings)
kek-key settings is = kek-is-key settings.cak settings.ckn is.cak is.name_octets

pub ick-key : (settings : Settings) (p : Profile) → IsSetting settings
    → IsCipherKey (setup_of settings p).ick
ick-key settings p is = ick-is-key settings.cak settings.ckn is.cak is.name_octets
