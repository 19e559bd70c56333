-- Of payloads that are alike the same is seen, and they have the same kind.
use mathlib.Core.Path.{◌≡◌, refl, sym, ap, ◌∙◌}
use mathlib.Core.Bool.{Bool, true, false, cond, ◌&&◌}
use mathlib.Core.Option.{Option, none, some}
use mathlib.Core.List.{List}
use Prim.Native.Nat.{ℕ}
use lib.ListN.{length}
use borrow.Author.Tests.{lt-ltb}
use Rattle.wire.specs.Wire.{byte_at}
use Rattle.types.specs.Types.{is_video}
use Rattle.exvideo.specs.Video.{is_legacy_avc}
use Rattle.multitrack_media.specs.Container.{Container, container_of}
use Rattle.multitrack_media.specs.Answer.{has_packet_type}
use Rattle.multitrack_media.proofs.Answers.{container_facts_lem}
use Rattle.init_cache.specs.Head.{tag_header, frame_head}
use Rattle.init_cache.specs.Verdicts.{verdicts, count_valid}
use Rattle.init_cache.specs.Seen.{seen, is_container_of}
use Rattle.init_cache.specs.Kind.{cache_kind}
use Rattle.init_cache.specs.Alike.{Alike}
use Rattle.init_cache.proofs.Rules.{SameSeen, kind_same}

-- what is seen of a container
pub container_seen : (k type : ℕ) (p : List ℕ) → is_container_of k (seen type p) ≡ has_packet_type type p k
unfolding is_container_of seen has_packet_type
container_seen k type p = go (container_of type p) refl
  where
    go : (o : Option Container) → container_of type p ≡ o → is_container_of k (seen type p) ≡ has_packet_type type p k
    go none q = simp (is_container_of, seen, has_packet_type, q)
    go (some c) q = simp (is_container_of, seen, has_packet_type, q, lt-ltb 0 _ (container_facts_lem type p c q).least)

-- the head, from what it is made of
module _ (type : ℕ) (p q : List ℕ) (long : length p ≡ length q) (byte0 : byte_at p 0 ≡ byte_at q 0)
    (byte1 : is_video type ≡ true → is_legacy_avc (byte_at p 0) ≡ true → byte_at p 1 ≡ byte_at q 1) (header : tag_header type p ≡ tag_header type q) where
  byte1_same : cond (is_video type && is_legacy_avc (byte_at p 0)) (byte_at p 1) 0 ≡ cond (is_video type && is_legacy_avc (byte_at q 0)) (byte_at q 1) 0
  byte1_same = rw (← byte0) (go (is_video type) refl (is_legacy_avc (byte_at p 0)) refl)
    where
      go : (v : Bool) → is_video type ≡ v → (l : Bool) → is_legacy_avc (byte_at p 0) ≡ l → ◌≡◌ {A = ℕ} (cond (v && l) (byte_at p 1) 0) (cond (v && l) (byte_at q 1) 0)
      go true x true y = byte1 x y
      go true x false y = refl
      go false x l y = refl

  pub head_same : frame_head type p ≡ frame_head type q
  unfolding frame_head
  head_same = rw (byte1_same, long, byte0, header) refl

module _ (type : ℕ) (p q : List ℕ) (a : Alike type p q) where
  pub seen_alike : SameSeen (seen type p) (seen type q)
  unfolding seen verdicts
  seen_alike =
      record {
        head = head_same type p q a.long a.byte0 a.byte1 a.header;
        accepted = λ k l. container_seen k type p ∙ a.container k ∙ sym (container_seen k type q);
        records = ap length a.verdict;
        valid = ap count_valid a.verdict;
      }

  -- THE KIND DEPENDS ON NOTHING ELSE
  pub kind_alike : cache_kind type p ≡ cache_kind type q
  unfolding cache_kind
  kind_alike = kind_same type (seen type p) (seen type q) seen_alike
