-- The bytes of a disk image and what they mean. A frame of 1,026 bytes stands for each block: state (0 settled, 1 unsettled), fate (1 new, any other
-- old), settled content, new content.
use Rattle.std.specs.Prelude.{◌≡◌, ℕ, ◌+◌, ◌*◌, ◌/◌, ◌<◌, ◌≤◌, Bool, cond, List, [], length, take, drop, ◌==◌, nat_lt, slice_index}
use Rattle.device.specs.Cells.{Cell}
use Rattle.device.specs.Cells.Cell.{settled, unsettled}
use Rattle.device.specs.Disks.{Blocks}

pub record Frame : Type 0 where
  pub state : ℕ
  pub fate : ℕ
  pub settled_content : List ℕ
  pub new_content : List ℕ

-- the contents of the frame that begins at a byte
unfoldable pub settled_at : List ℕ → ℕ → List ℕ
settled_at xs i = take 512 (drop (i + 2) xs)

unfoldable pub new_at : List ℕ → ℕ → List ℕ
new_at xs i = take 512 (drop (i + 514) xs)

abbrev pub frame_at : List ℕ → ℕ → Frame
frame_at xs i = record { state = slice_index xs i; fate = slice_index xs (i + 1); settled_content = settled_at xs i; new_content = new_at xs i }

-- the frame of a block
abbrev pub frame_of : List ℕ → ℕ → Frame
frame_of xs q = frame_at xs (1026 * q)

abbrev pub blocks_in : List ℕ → ℕ
blocks_in xs = length xs / 1026

-- What a frame means: a state other than 1 is settled. An image with a state above 1 is refused when a disk is made of it.
abbrev pub block_of_frame : Frame → Cell (List ℕ)
block_of_frame f = cond (f.state == 1) (unsettled f.settled_content f.new_content) (settled f.settled_content)

-- past the last block there is nothing
abbrev pub block_in : List ℕ → ℕ → Cell (List ℕ)
block_in xs q = cond (nat_lt q (blocks_in xs)) (block_of_frame (frame_of xs q)) (settled [])

abbrev pub image_blocks : Bool → List ℕ → Blocks
image_blocks on xs = record { on = on; size = blocks_in xs; cell = block_in xs }

-- an image serves if it has 1 to 65,536 whole frames
pub record Whole (xs : List ℕ) : Type 0 where
  pub whole : length xs ≡ 1026 * blocks_in xs
  pub some : 0 < blocks_in xs
  pub few : blocks_in xs ≤ 65536

-- a frame with one part changed
abbrev pub with_state : ℕ → Frame → Frame
with_state state f = record { state = state; fate = f.fate; settled_content = f.settled_content; new_content = f.new_content }

abbrev pub with_new : List ℕ → Frame → Frame
with_new bytes f = record { state = f.state; fate = f.fate; settled_content = f.settled_content; new_content = bytes }

abbrev pub with_new_kept : Frame → Frame
with_new_kept f = record { state = f.state; fate = f.fate; settled_content = f.new_content; new_content = f.new_content }

-- A frame once its block is written: unsettled, its settled content as it was.
abbrev pub written_frame : List ℕ → Frame → Frame
written_frame bytes f = record { state = 1; fate = f.fate; settled_content = f.settled_content; new_content = bytes }

-- a frame that is settled with some content; its fate and its new content are as they were
abbrev pub settled_with : List ℕ → Frame → Frame
settled_with bytes f = record { state = 0; fate = f.fate; settled_content = bytes; new_content = f.new_content }

-- a frame once its block is settled, with its new content or with its settled content
abbrev pub settled_as : Bool → Frame → Frame
settled_as new f = cond (f.state == 1) (settled_with (cond new f.new_content f.settled_content) f) f

-- a frame once its block is settled as it reads
abbrev pub settled_frame : Frame → Frame
settled_frame f = cond (f.state == 1) (settled_with f.new_content f) f

-- what a power cut leaves of an unsettled frame, by its fate
abbrev pub by_fate : {A : Type 0} → ℕ → A → A → A
by_fate fate old new = cond (fate == 1) new old

-- a frame after a power cut
abbrev pub cut_frame : Frame → Frame
cut_frame f = cond (f.state == 1) (settled_with (by_fate f.fate f.settled_content f.new_content) f) f

-- a block after a power cut, by the fate of its frame
abbrev pub cut_block : ℕ → Cell (List ℕ) → Cell (List ℕ)
cut_block fate (settled s) = settled s
cut_block fate (unsettled was s) = settled (by_fate fate was s)

-- In what follows, the bytes are xs before and ys after. A place past the last block has for its frame the bytes that are left over, so that these
-- are as they were too.

-- only the frame of block b is changed, by f
abbrev pub ChangesOne : (Frame → Frame) → ℕ → List ℕ → List ℕ → Type 0
ChangesOne f b xs ys = (q : ℕ) → frame_of ys q ≡ cond (q == b) (f (frame_of xs q)) (frame_of xs q)

-- the frames of the first n blocks are changed, by f
abbrev pub ChangesFirst : ℕ → (Frame → Frame) → List ℕ → List ℕ → Type 0
ChangesFirst n f xs ys = (q : ℕ) → frame_of ys q ≡ cond (nat_lt q n) (f (frame_of xs q)) (frame_of xs q)

-- the frame of every block is changed, by f
abbrev pub ChangesAll : (Frame → Frame) → List ℕ → List ℕ → Type 0
ChangesAll f xs ys = ChangesFirst (blocks_in xs) f xs ys

-- the frames of the first k blocks are settled or unsettled
abbrev pub Listed : List ℕ → ℕ → Type 0
Listed xs k = (q : ℕ) → q < k → (frame_of xs q).state ≤ 1

-- block b is the first that is neither
pub record FirstBad (xs : List ℕ) (b : ℕ) : Type 0 where
  pub inside : b < blocks_in xs
  pub bad : 1 < (frame_of xs b).state
  pub before : Listed xs b
