-- Document 01, "Numbers to hold to": "These limits belong to the kinds of thing they limit, one stated constant each." Three of the numbers are those
-- of document 02, Ask 12: "D up to 1,024, tables up to 65,536 words, files up to 8,192 bytes; 2, 11 and 13 move with them."
-- The constants of the code are stated against these (crate types). Assumes nothing.
use Rattle.std.specs.Prelude.{ℕ, Bool, true, not, eqb}

-- "n 1 to 6"
abbrev pub most_axes : ℕ
most_axes = 6

-- "D up to 1,024"
abbrev pub most_devices : ℕ
most_devices = 1024

-- "rank 1 to 4"
abbrev pub most_dims : ℕ
most_dims = 4

-- "tables up to 65,536 words"
abbrev pub most_words : ℕ
most_words = 65536

-- "0 to 64 steps"
abbrev pub most_steps : ℕ
most_steps = 64

-- "More than 4,096 plain steps run in all is 43" (document 02, Ask 11)
abbrev pub most_run : ℕ
most_run = 4096

-- "down to depth 4"
abbrev pub most_depth : ℕ
most_depth = 4

-- "file 18 to"
abbrev pub least_bytes : ℕ
least_bytes = 18

-- "files up to 8,192 bytes"
abbrev pub most_bytes : ℕ
most_bytes = 8192

-- the latest edition of plan files: "Refusal 3 now means none of 1, 2 and 3" (document 02, Ask 9)
abbrev pub latest_edition : ℕ
latest_edition = 3

-- What a reader of plan files takes: `kinds` are the kind bytes that it knows. Later readers take more (document 02); each is an instance of the one
-- judgement (PlanFile).
pub record Reader : Type 0 where
  pub devices : ℕ
  pub words : ℕ
  pub bytes : ℕ
  pub editions : ℕ
  pub kinds : ℕ → Bool

-- every kind byte is one that the reader knows: what stands for no step is refused all the same
abbrev pub every_kind : ℕ → Bool
every_kind b = true

-- the present reader
abbrev pub present : Reader
present = record {
  devices = most_devices;
  words = most_words;
  bytes = most_bytes;
  editions = latest_edition;
  kinds = every_kind;
}

-- ---- earlier readers

-- The reader with the limits of document 01 itself, "D at most 256", "table at most 4,096 words", "file 18 to 4,096 bytes". What
-- later readers take besides is as the present one takes it. A file of more than 2,802 bytes is accepted only with a repeat.
abbrev pub original : Reader
original = record { devices = 256; words = 4096; bytes = 4096; editions = latest_edition; kinds = every_kind }

-- The reader of the editions up to one, all else as the present one takes it. Document 02, Ask 3: "Refusal 3 now means neither 1 nor 2."
abbrev pub up_to : (latest : ℕ) → Reader
up_to latest = record { devices = most_devices; words = most_words; bytes = most_bytes; editions = latest; kinds = every_kind }

-- The reader just before a kind of step, all else as the present one takes it (document 02, Asks 5 and 11).
abbrev pub before : (kind : ℕ) → Reader
before kind = record {
  devices = most_devices;
  words = most_words;
  bytes = most_bytes;
  editions = latest_edition;
  kinds = λ b. not (eqb b kind);
}

abbrev pub without_repeats : Reader
without_repeats = before 9

abbrev pub without_scatters : Reader
without_scatters = before 5
