-- The definitions that the contracts of `utf8` cite, and the encoding that its theorems compare with.
pub mod Utf8
pub mod Encode
pub mod inner
