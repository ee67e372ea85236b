mod HalfLemmas
mod PutLemmas
mod ReadLemmas
