-- The observation of numbers that are all taken.
use Rattle.std.proofs.Common.{◌≡◌, ℕ, ◌*◌, ◌<◌, ◌≤◌, List, [], ◌∷◌, true, ltb, refl, sym, ap, ◌∙◌, Ok, Err}
use Rattle.std.specs.Prelude.{ℤ, pos, int_lt, unsigned_abs}
use Rattle.std.proofs.lemmas.Bool.{lt-ltb}
use Rattle.dada_model.specs.declared.key.Key.{Key}
use Rattle.dada_model.specs.declared.key.Key.TheVariants.{Nchan, Nbit, Npol, Ndim, Tsamp, Freq, Bw, ObsOffset}
use Rattle.dada_model.specs.Fields.{Field}
use Rattle.dada_model.specs.Observation.{Observation, TooNarrow, keys, observation_in, too_narrow, observation_of}
use Rattle.dada_model.specs.Laws.{AcceptedByRows, HasNumberInRow}
use Rattle.obs_plan.specs.Rows.{IsTaken}
use Rattle.obs_plan.proofs.Refusals.{AreTakenAt, refused_last}
use Rattle.obs_plan.proofs.Refusals.AreTakenAt.{no_key, past}

-- the numbers of fields that are all taken
pub record AreTaken (fields : List Field) (channels nbit npol ndim sample centre : ℕ) (bw : ℤ) (width offset : ℕ) : Type
    0 where
  pub channels_taken : IsTaken fields Nchan (pos channels)
  pub nbit_taken : IsTaken fields Nbit (pos nbit)
  pub npol_taken : IsTaken fields Npol (pos npol)
  pub ndim_taken : IsTaken fields Ndim (pos ndim)
  pub sample_taken : IsTaken fields Tsamp (pos sample)
  pub centre_taken : IsTaken fields Freq (pos centre)
  pub bw_taken : IsTaken fields Bw bw
  pub width_is : width ≡ unsigned_abs bw
  pub offset_taken : IsTaken fields ObsOffset (pos offset)

abbrev pub observed : ℕ → ℕ → ℕ → ℕ → ℕ → ℤ → ℕ → ℕ → Observation
observed channels nbit npol sample centre bw width offset = record {
  channels = channels;
  nbit = nbit;
  npol = npol;
  sample_ns = sample;
  centre_hz = centre;
  width_hz = width;
  is_falling = int_lt bw (pos 0);
  obs_offset = offset;
}

module _ (fields : List Field) (channels nbit npol ndim sample centre : ℕ) (bw : ℤ) (width offset : ℕ)
    (r : AreTaken fields channels nbit npol ndim sample centre bw width offset) where
  observation_is : observation_in fields ≡ observed channels nbit npol sample centre bw width offset
  unfolding observation_in
  observation_is = rw (
    r.channels_taken.is,
    r.nbit_taken.is,
    r.npol_taken.is,
    r.sample_taken.is,
    r.centre_taken.is,
    r.bw_taken.is,
    r.offset_taken.is,
    r.width_is,
  ) refl

  in_row : (key : Key) → HasNumberInRow fields key
  in_row Nchan = record { number = pos channels; is = r.channels_taken.is; in_row = r.channels_taken.in_row }
  in_row Nbit = record { number = pos nbit; is = r.nbit_taken.is; in_row = r.nbit_taken.in_row }
  in_row Npol = record { number = pos npol; is = r.npol_taken.is; in_row = r.npol_taken.in_row }
  in_row Ndim = record { number = pos ndim; is = r.ndim_taken.is; in_row = r.ndim_taken.in_row }
  in_row Tsamp = record { number = pos sample; is = r.sample_taken.is; in_row = r.sample_taken.in_row }
  in_row Freq = record { number = pos centre; is = r.centre_taken.is; in_row = r.centre_taken.in_row }
  in_row Bw = record { number = bw; is = r.bw_taken.is; in_row = r.bw_taken.in_row }
  in_row ObsOffset = record { number = pos offset; is = r.offset_taken.is; in_row = r.offset_taken.in_row }

  pub accepted : AcceptedByRows → 1000 * channels ≤ width →
      observation_of fields ≡ Ok (observed channels nbit npol sample centre bw width offset)
  accepted law wide = (law fields (observed channels nbit npol sample centre bw width offset)).1
      (sym observation_is, in_row, wide)

  all_taken : AreTakenAt fields keys
  all_taken =
      past r.channels_taken (past r.nbit_taken (past r.npol_taken (past r.ndim_taken
      (past r.sample_taken (past r.centre_taken (past r.bw_taken (past r.offset_taken no_key)))))))

  pub narrow : width < 1000 * channels → observation_of fields ≡ Err (TooNarrow width channels)
  narrow less =
      let test : ltb (width) (1000 * channels) ≡ true = lt-ltb (width) (1000 * channels) less in
      let last : too_narrow (observation_in fields) ≡ TooNarrow width channels ∷ [] = ap too_narrow observation_is
      ∙ rw test refl in
      refused_last fields all_taken (TooNarrow width channels) last
