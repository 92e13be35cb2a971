-- What may happen between a call for a stripe and its recovery: to the log, the array's calls for other stripes; to the stripe, nothing to its
-- data, and while it is entered anything to its parity. Assumes nothing.
use Rattle.std.specs.Prelude.{◌≢◌, ◌≡◌, ℕ, ◌<◌, false, List, length}
use Rattle.layout.specs.Places.{parity_member, stripe_of}
use Rattle.layout.specs.declared.Array.{Array}
use Rattle.tag.specs.Blocks.{format_at}
use Rattle.stripe.specs.Stripes.{block_of}
use Rattle.intent.specs.Records.{named}
use Rattle.intent.specs.Calls.{recorded_log, recover_log}

-- any list of the array's calls for other stripes, on any bytes, refused ones too and ones that are cut short
pub data Meanwhile (a : Array) (stripe : ℕ) : List ℕ → List ℕ → Type 0 where
  nothing : {log : List ℕ} → Meanwhile a stripe log log
  updates : {log last : List ℕ} (block : ℕ) (new bytes : List ℕ) (stores : ℕ) → stripe_of a block ≢ stripe
      → Meanwhile a stripe (recorded_log a block new bytes log stores) last → Meanwhile a stripe log last
  recovers : {log last : List ℕ} (other : ℕ) (bytes : List ℕ) → other ≢ stripe
      → Meanwhile a stripe (recover_log a other bytes log) last → Meanwhile a stripe log last

-- no data block changes, nor, where the stripe is not entered, the parity
pub record Untouched (a : Array) (stripe : ℕ) (log bytes later : List ℕ) : Type 0 where
  pub long : length later ≡ length bytes
  pub same_data : (m : ℕ) → m < a.members → m ≢ parity_member a stripe → block_of (format_at a) later m ≡ block_of (format_at a) bytes m
  pub same-parity : named stripe log ≡ false → block_of (format_at a) later (parity_member a stripe) ≡ block_of (format_at a) bytes (parity_member a stripe)
