-- Worked values of block streams, computed: the six bytes of a sample file, in blocks of several sizes.
use Rattle.std.proofs.Common.{◌≡◌, ℕ, true, false, List, [], ◌∷◌, refl}
use Rattle.ring_blocks.specs.declared.Entry.{Entry}
use Rattle.stream_model.specs.Blocks.{full_entry, last_entry, cut_entry, full_entries, transfer_entries, whole_stream, joined_data, abandoned_stream, ended_transfers, has_cut, is_over, transfer_bytes}

abbrev sample : List ℕ
sample = 10 ∷ 0 ∷ 0 ∷ 20 ∷ 0 ∷ 0 ∷ []

-- an exact multiple of the size ends with an empty block
one_block : whole_stream 6 (sample ∷ []) ≡ full_entry sample ∷ last_entry [] ∷ []
unfolding whole_stream transfer_entries full_entries
one_block = refl

six_blocks : whole_stream 1 (sample ∷ [])
    ≡ full_entry (10 ∷ []) ∷ full_entry (0 ∷ []) ∷ full_entry (0 ∷ []) ∷ full_entry (20 ∷ []) ∷ full_entry (0 ∷ [])
    ∷ full_entry (0 ∷ []) ∷ last_entry [] ∷ []
unfolding whole_stream transfer_entries full_entries
six_blocks = refl

-- a second transfer without data
two_transfers : List Entry
two_transfers = whole_stream 4 (sample ∷ [] ∷ [])

two_transfers_are : two_transfers
    ≡ full_entry (10 ∷ 0 ∷ 0 ∷ 20 ∷ []) ∷ last_entry (0 ∷ 0 ∷ []) ∷ last_entry [] ∷ []
unfolding two_transfers whole_stream transfer_entries full_entries
two_transfers_are = refl

first_is_sample : transfer_bytes 0 two_transfers ≡ sample
unfolding two_transfers whole_stream transfer_entries full_entries transfer_bytes
first_is_sample = refl

over_after_both : is_over 2 two_transfers ≡ true
unfolding two_transfers whole_stream transfer_entries full_entries ended_transfers has_cut
over_after_both = refl

not_after_one : is_over 2 (full_entry (10 ∷ 0 ∷ 0 ∷ 20 ∷ []) ∷ last_entry (0 ∷ 0 ∷ []) ∷ []) ≡ false
unfolding ended_transfers has_cut
not_after_one = refl

-- of six bytes read, with a limit of five: two full blocks of two
too_long : abandoned_stream 2 5 [] sample ≡ full_entry (10 ∷ 0 ∷ []) ∷ full_entry (0 ∷ 20 ∷ []) ∷ cut_entry ∷ []
unfolding abandoned_stream whole_stream joined_data full_entries
too_long = refl

-- a transfer before takes four of the limit of seven, so that three are left
after_a_transfer : abandoned_stream 2 7 ((1 ∷ 2 ∷ 3 ∷ 4 ∷ []) ∷ []) sample
    ≡ full_entry (1 ∷ 2 ∷ []) ∷ full_entry (3 ∷ 4 ∷ []) ∷ last_entry [] ∷ full_entry (10 ∷ 0 ∷ []) ∷ cut_entry ∷ []
unfolding abandoned_stream whole_stream transfer_entries joined_data full_entries
after_a_transfer = refl

-- nothing was read
no_data : abandoned_stream 2 7 [] [] ≡ cut_entry ∷ []
unfolding abandoned_stream whole_stream joined_data full_entries
no_data = refl
