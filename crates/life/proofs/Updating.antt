-- An update at any time: accepted, it leaves what sealing the new contents would, but for a lost member; refused, everything as it was.
-- Assumes nothing.
use mathlib.Core.Path.{◌≡◌, sym, ap, ◌∙◌}
use mathlib.Core.Bool.{true, false}
use mathlib.Core.List.{List}
use Prim.Native.Nat.{ℕ, ◌*◌, ◌<◌}
use native.Mathlib.Decide.{ℕ_discrete}
use native.Mathlib.Omega.{arith}
use borrow.Author.Tests.{eq-eqb, ne_eqb}
use lib.ListN.{length, set}
use lib.Seq.{length-sets}
use Rattle.layout.specs.Arrays.{data_members}
use Rattle.layout.specs.Places.{parity_member, stripe_of, index_of, member_of}
use Rattle.layout.specs.Ranges.{SoundStripe}
use Rattle.layout.specs.declared.Array.{Array}
use Rattle.layout.proofs.Members.{parity-below}
use Rattle.layout.proofs.Blocks.{index_in_stripe}
use Rattle.format.proofs.Sizes.{times-next}
use Rattle.tag.specs.Blocks.{format_at}
use Rattle.tag.specs.Tags.{bad}
use Rattle.stripe.specs.Tables.{part}
use Rattle.stripe.specs.Stripes.{block_of}
use Rattle.stripe.specs.Jobs.{update_refusal, update_bytes}
use Rattle.stripe.specs.Accepted.{Replaceable}
use Rattle.stripe.proofs.Contents.{part-new, part-kept}
use Rattle.stripe.proofs.OneEntry.{one_entry_set}
use Rattle.stripe.proofs.Updates.{replaceable}
use Rattle.stripe.proofs.Updated.{refusals, update_refused_keeps, update_keeps_length, update_keeps_others}
use Rattle.stripe.proofs.UpdateSealed.{updated_content, update_keeps_sealed}
use Rattle.life.specs.Events.{update, numbered}
use Rattle.life.specs.Ledger.{opened, entered, Standing, is_lost}
use Rattle.life.proofs.Stands.{never, Stands, good-there}
use Rattle.life.proofs.Reading.{own_block, own_below}

-- the ledger with an entry is that of the contents with a part replaced
pub entry_is_part : (a : Array) (block : ℕ) (content new : List ℕ) → index_of a block < data_members a → length content ≡ (format_at a).data_length * data_members a
    → length new ≡ (format_at a).data_length → set (opened a content) (index_of a block) new ≡ opened a (updated_content a block content new)
entry_is_part a block content new here long size =
    let d = data_members a in
    let n = (format_at a).data_length in
    let i = index_of a block in
    let later = updated_content a block content new in
    sym (one_entry_set d i (part n later) (part n content) here (λ k h ne. part-kept n content i new size k ne)
    ∙ ap (set (opened a content) i) (part-new n content i new size (omega (arith, times-next n i d here))))

module _ (a : Array) (block : ℕ) (sound : SoundStripe a (stripe_of a block)) (small : a.volume < 256) {contents : List (List ℕ)} {s : Standing} {bytes : List ℕ}
    (st : Stands a (stripe_of a block) contents s bytes) (new : List ℕ) where
  module _ (done : update_refusal a block (length new) bytes ≡ 0) where
    fit : Replaceable a (stripe_of a block) (member_of a block) (length new) bytes
    fit = replaceable a (stripe_of a block) (member_of a block) (length new) bytes (refusals a block new bytes done).1

    parity_in : parity_member a (stripe_of a block) < a.members
    parity_in = parity-below a (stripe_of a block) (omega (arith, sound.array.few))

    own-there : is_lost s (member_of a block) ≡ false
    own-there = good-there a (stripe_of a block) st (member_of a block) fit.own-good

    parity-there : is_lost s (parity_member a (stripe_of a block)) ≡ false
    parity-there = good-there a (stripe_of a block) st (parity_member a (stripe_of a block)) fit.parity-good

    -- a lost member is another one, and stays as it was
    lost-kept : (m : ℕ) → is_lost s m ≡ true → block_of (format_at a) (update_bytes a block new bytes) m ≡ block_of (format_at a) bytes m
    lost-kept m e =
        update_keeps_others a block new bytes done m
        (λ q. never (sym e ∙ ap (is_lost s) q ∙ own-there)) (λ q. never (sym e ∙ ap (is_lost s) q ∙ parity-there))

    accepted-stands : Stands a (stripe_of a block) (set contents (index_of a block) new) s (update_bytes a block new bytes)
    accepted-stands =
        record {
          content = updated_content a block st.content new;
          content_long = length-sets st.content ((format_at a).data_length * index_of a block) new ∙ st.content_long;
          kept =
              ap (λ (l : List (List ℕ)). set l (index_of a block) new) st.kept
              ∙ entry_is_part a block st.content new (index_in_stripe a block sound.array) st.content_long fit.size;
          long = update_keeps_length a block new bytes done ∙ st.long;
          there = λ m h e. update_keeps_sealed a block st.content new (own_block a block sound) st.content_long fit.size bytes done
              (st.there (member_of a block) (own_below a block sound) own-there) (st.there (parity_member a (stripe_of a block)) parity_in parity-there) small m h (st.there m h e);
          lost_in = st.lost_in;
          lost-bad = λ m e. ap (bad a (stripe_of a block) m) (lost-kept m e) ∙ st.lost-bad m e;
        }

  pub update-stands : Stands a (stripe_of a block) (entered a contents (update block new) (numbered (update_refusal a block (length new) bytes))) s (update_bytes a block new bytes)
  update-stands = by_number (ℕ_discrete (update_refusal a block (length new) bytes) 0)
    where
      by_number : Dec (update_refusal a block (length new) bytes ≡ 0)
          → Stands a (stripe_of a block) (entered a contents (update block new) (numbered (update_refusal a block (length new) bytes))) s (update_bytes a block new bytes)
      by_number (yes done) = rw (eq-eqb (update_refusal a block (length new) bytes) 0 done) (accepted-stands done)
      by_number (no refused) = rw (ne_eqb (update_refusal a block (length new) bytes) 0 refused, update_refused_keeps a block new bytes refused) st
