-- What contracts cite, each definition after those that it builds on. Laws stand in the files beside this one.
use Rattle.std.specs.Prelude.{ℕ, zero, suc, ◌+◌, ◌*◌, ◌/◌, ◌%◌, ◌^◌, ◌-◌, Bool, ◌&&◌, ◌||◌, cond, true, not, List, eqb, leb, ltb, length, get_or}
use Rattle.std.specs.Int.Bits.{bit_or}
use Rattle.base_laws.specs.Definitions.{all_below, lowest, has, within, subset, disjoint, tabulate}
use Rattle.base_ids.specs.Definitions.{none, unless, unless_at, first_of}
use Rattle.base_ids.specs.declared.Refusal.{Refusal}
use Rattle.settings_values.specs.Definitions.{nodes, shards, subgroup, from_to, settings_ok}
use Rattle.message_format.specs.declared.Form.{Form}
use Rattle.message_format.specs.declared.Form.TheVariants.{Report, Order}
use Rattle.message_format.specs.declared.Contents.{Contents}

-- ---- A message is a list of words, four to a record. Word 3 of a record is the index of the next one on the chain; 0 ends it.
-- Records off the chain carry nothing: no definition here looks at them.

-- the next index that record i names
abbrev pub next : List ℕ → ℕ → ℕ
next w i = get_or w (4 * i + 3) 0

-- the index of the record that is j steps along the chain; the head is 0 steps along
unfoldable pub place : List ℕ → ℕ → ℕ
place w zero = 0
place w (suc j) = next w (place w j)

-- the chain ends with record i
abbrev pub ends : List ℕ → ℕ → Bool
ends w i = eqb (next w i) 0

-- how many records follow the head on the chain; a message has at most 128 records
unfoldable pub following : List ℕ → ℕ
following w = lowest 127 (λ j. ends w (place w j))

-- record i ends the chain, or its next index is larger than its own and lies inside the message
abbrev pub linked : List ℕ → ℕ → Bool
linked w i = ends w i || ltb i (next w i) && ltb (next w i) (length w / 4)

-- row 5: 1 to 128 records of four words
unfoldable pub row5 : List ℕ → Bool
row5 w = leb 1 (length w) && leb (length w) 512 && eqb (length w % 4) 0

-- row 8: every record on the chain is linked
unfoldable pub row8 : List ℕ → Bool
row8 w = all_below (suc (following w)) (λ j. linked w (place w j))

-- ---- The records of a message's contents by index: record j has words 3j, 3j + 1 and 3j + 2 of the body. Word 0 is
-- kind × 256 + shard. Kinds: 1 a shard's members, 2 a position of the termination, 3 a run, 4 a holder, 5 a cut.

abbrev pub tag : List ℕ → ℕ → ℕ
tag b j = get_or b (3 * j) 0

abbrev pub word1 : List ℕ → ℕ → ℕ
word1 b j = get_or b (3 * j + 1) 0

abbrev pub word2 : List ℕ → ℕ → ℕ
word2 b j = get_or b (3 * j + 2) 0

abbrev pub kind : List ℕ → ℕ → ℕ
kind b j = tag b j / 256

abbrev pub record_shard : List ℕ → ℕ → ℕ
record_shard b j = tag b j % 256

-- record i comes before record j: by kind, then shard, then (kind 3) view
unfoldable pub precedes : List ℕ → ℕ → ℕ → Bool
precedes b i j =
    ltb (tag b i) (tag b j)
    || eqb (tag b i) (tag b j) && (eqb (kind b j) 3 && ltb (word1 b i) (word1 b j))

-- the shards, as a mask, of those of the first n records that f picks
unfoldable pub shards_where : (ℕ → Bool) → List ℕ → ℕ → ℕ
shards_where f b zero = 0
shards_where f b (suc n) = cond (f n) (bit_or (shards_where f b n) (2 ^ record_shard b n)) (shards_where f b n)

-- the shards that have a record of kind k among the first n
abbrev pub shards_of : ℕ → List ℕ → ℕ → ℕ
shards_of k b n = shards_where (λ j. eqb (kind b j) k) b n

-- the shards that the node carries, by the members that the first n records give
abbrev pub carried_by : ℕ → List ℕ → ℕ → ℕ
carried_by node b n = shards_where (λ j. eqb (kind b j) 1 && has (word1 b j) node) b n

-- the members of shard s. In a message that passes rows 9, 16 and 17 record s is that of kind 1 and shard s (Laws.members-record).
abbrev pub members_of : List ℕ → ℕ → ℕ
members_of b s = word1 b s

-- ---- Rows 6, 7, 9, 16, 17, 10 and 11 over the settings σ and the contents of a report or an order: each says
-- that the row finds nothing wrong.

-- row 6: the node is below N
unfoldable pub row6 : List ℕ → ℕ → Bool
row6 σ node = ltb node (nodes σ)

-- the limits of a view number
unfoldable pub view_ok : Form → ℕ → Bool
view_ok Report v = from_to 1 4294967294 v
view_ok Order v = from_to 2 4294967295 v

-- row 7: the view is in its limits; the members mask has no bit from N up, and has the head's node
unfoldable pub row7 : Form → List ℕ → ℕ → ℕ → ℕ → Bool
row7 form σ node view members = view_ok form view && within (nodes σ) members && has members node

-- the kinds that a message can have
unfoldable pub kind_ok : Form → ℕ → Bool
kind_ok Report k = from_to 1 3 k
kind_ok Order k = from_to 1 2 k || from_to 4 5 k

-- word 2 of kinds 1 and 4 is zero
unfoldable pub plain : ℕ → ℕ → Bool
plain k w = not (eqb k 1 || eqb k 4) || eqb w 0

-- row 9 at record j: its kind and its word 2
unfoldable pub kind_at : Form → List ℕ → ℕ → Bool
kind_at form b j = kind_ok form (kind b j) && plain (kind b j) (word2 b j)

-- row 16 at record j: its shard
unfoldable pub shard_at : List ℕ → List ℕ → ℕ → Bool
shard_at σ b j = ltb (record_shard b j) (shards σ)

-- a holder or a cut for a shard that the recipient does not carry
unfoldable pub surplus : ℕ → List ℕ → ℕ → Bool
surplus node b j = leb 4 (kind b j) && not (has (carried_by node b j) (record_shard b j))

-- row 17 at record j: it follows the record before it, and is not surplus
unfoldable pub sequence_at : ℕ → List ℕ → ℕ → Bool
sequence_at node b j = (eqb j 0 || precedes b (j - 1) j) && not (surplus node b j)

-- every shard, as a mask
abbrev pub every_shard : List ℕ → ℕ
every_shard σ = 2 ^ shards σ - 1

-- row 17: no record is missing. Kind 1 for each shard; kind 2 for every shard or, in a report, for none; in an order kinds 4
-- and 5 for the shards that its recipient carries.
unfoldable pub complete : Form → List ℕ → ℕ → List ℕ → ℕ → Bool
complete Report σ node b len =
    subset (every_shard σ) (shards_of 1 b len)
    && (eqb (shards_of 2 b len) 0 || subset (every_shard σ) (shards_of 2 b len))
complete Order σ node b len =
    subset (every_shard σ) (shards_of 1 b len)
    && subset (every_shard σ) (shards_of 2 b len)
    && subset (carried_by node b len) (shards_of 4 b len)
    && subset (carried_by node b len) (shards_of 5 b len)

-- shards s and t are of different subgroups or share no node
unfoldable pub shard_apart : List ℕ → (ℕ → ℕ) → ℕ → ℕ → Bool
shard_apart σ masks s t = not (eqb (subgroup σ t) (subgroup σ s)) || disjoint (masks t) (masks s)

-- row 10 at shard s: it is not empty, lies inside the members and shares no node with a lower shard of its subgroup
unfoldable pub row10_at : List ℕ → ℕ → (ℕ → ℕ) → ℕ → Bool
row10_at σ members masks s =
    leb 1 (masks s) && subset (masks s) members && all_below s (shard_apart σ masks s)

-- row 10, for the members and shard masks of a view
unfoldable pub row10 : List ℕ → ℕ → (ℕ → ℕ) → Bool
row10 σ members masks = all_below (shards σ) (row10_at σ members masks)

-- (0, 0), or view and k from 1
unfoldable pub is_position : ℕ → ℕ → Bool
is_position v k = eqb v 0 && eqb k 0 || leb 1 v && leb 1 k

-- the view of a position or run against the head's: not above it in a report, below it in an order
unfoldable pub view_fits : Form → ℕ → ℕ → Bool
view_fits Report view v = leb v view
view_fits Order view v = ltb v view

-- row 11 for a record's kind and words 1 and 2
unfoldable pub legal : Form → ℕ → ℕ → ℕ → ℕ → ℕ → Bool
legal form view members k a b =
    cond (eqb k 1) true
    (cond (eqb k 3) (leb 1 a && leb 1 b && view_fits form view a)
    (cond (eqb k 4) (ltb a 32 && has members a)
    (is_position a b && view_fits form view a)))

-- row 11 at record j
unfoldable pub row11_at : Form → ℕ → ℕ → List ℕ → ℕ → Bool
row11_at form view members b j = legal form view members (kind b j) (word1 b j) (word2 b j)

-- ---- What a message says, when reader and writer refuse, and the words that the writer makes.

-- word k of the body that the chain of w gives
unfoldable pub body_word : List ℕ → ℕ → ℕ
body_word w k = cond (ltb k (3 * following w)) (get_or w (4 * place w (k / 3 + 1) + k % 3) 0) 0

-- the body that the chain of w gives, with zeros after it
unfoldable pub body_of : List ℕ → List ℕ
body_of w = tabulate 381 (body_word w)

-- what a message says
unfoldable pub contents_of : List ℕ → Contents
contents_of w =
    record {
      node = record { 0 = get_or w 0 0 };
      view = record { 0 = get_or w 1 0 };
      members = get_or w 2 0;
      len = following w;
      body = body_of w;
    }

-- number k for the first record of the contents that fails a test. `at` gives the index of the record so many steps along
-- the chain; record j of the contents is j + 1 steps along.
abbrev pub first_at : (ℕ → ℕ) → ℕ → (ℕ → Bool) → ℕ → Refusal → Refusal
first_at at len f k rest = unless_at (all_below len f) k (at (suc (lowest len (λ j. not (f j))))) rest

-- where the writer's records stand: one after another
abbrev pub in_order : ℕ → ℕ
in_order k = k

-- rows 9, 16, 17, 10 and 11 over the contents' records; a missing record is told at the last one on the chain
unfoldable pub records_refusal : (ℕ → ℕ) → Form → List ℕ → ℕ → ℕ → ℕ → List ℕ → ℕ → Refusal
records_refusal at form σ node view members b len =
    first_at at len (kind_at form b) 9
    (first_at at len (shard_at σ b) 16
    (first_at at len (sequence_at node b) 17
    (unless_at (complete form σ node b len) 17 (at len)
    (unless (row10 σ members (members_of b)) 10
    (unless (all_below len (row11_at form view members b)) 11 none)))))

-- the index of the first record on the chain whose next index is wrong
unfoldable pub broken_at : List ℕ → ℕ
broken_at w = place w (lowest (suc (following w)) (λ j. not (linked w (place w j))))

-- rows 6 and 7 over the contents' head
unfoldable pub head_refusal : Form → List ℕ → ℕ → ℕ → ℕ → Refusal
head_refusal form σ node view members =
    unless (row6 σ node) 6 (unless (row7 form σ node view members) 7 none)

-- the refusal of a message under right settings: rows 5 to 8, 9, 16, 17, 10 and 11
unfoldable pub message_refusal : Form → List ℕ → List ℕ → Refusal
message_refusal form σ w =
    unless (row5 w) 5
    (first_of (head_refusal form σ (get_or w 0 0) (get_or w 1 0) (get_or w 2 0))
    (unless_at (row8 w) 8 (broken_at w)
    (records_refusal (place w) form σ (get_or w 0 0) (get_or w 1 0) (get_or w 2 0) (body_of w) (following w))))

-- the refusal of contents under right settings: rows 5 (by the words needed), 6, 7, 9, 16, 17, 10 and 11
unfoldable pub contents_refusal : Form → List ℕ → Contents → Refusal
contents_refusal form σ c =
    unless (leb c.len 127) 5
    (first_of (head_refusal form σ c.node.0 c.view.0 c.members)
    (records_refusal in_order form σ c.node.0 c.view.0 c.members c.body c.len))

-- the reader: row 2 and those of a message
unfoldable pub read_refusal : Form → List ℕ → List ℕ → Refusal
read_refusal form σ w = unless (settings_ok σ) 2 (message_refusal form σ w)

-- word p of the head
unfoldable pub head_word : Contents → ℕ → ℕ
head_word c p = cond (eqb p 0) c.node.0 (cond (eqb p 1) c.view.0 c.members)

-- word p below 3 of record i
unfoldable pub record_word : Contents → ℕ → ℕ → ℕ
record_word c i p = cond (eqb i 0) (head_word c p) (get_or c.body (3 * (i - 1) + p) 0)

-- word k of the message that the writer makes: the records one after another, then zeros
unfoldable pub message_word : Contents → ℕ → ℕ
message_word c k =
    cond (ltb c.len (k / 4)) 0
    (cond (ltb (k % 4) 3) (record_word c (k / 4) (k % 4))
    (cond (ltb (k / 4) c.len) (k / 4 + 1) 0))

-- how many words the message takes
abbrev pub message_length : Contents → ℕ
message_length c = 4 * (c.len + 1)

-- the first n words of the message, followed by zeros
unfoldable pub message_of : Contents → ℕ → List ℕ
message_of c n = tabulate n (message_word c)
