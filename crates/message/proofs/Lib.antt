-- SPDX-License-Identifier: MPL-2.0
pub mod Readers
pub mod Told
pub mod WrittenSizes
pub mod WrittenLengths
pub mod Written
pub mod WrittenBack
pub mod HandedBack
