-- SPDX-License-Identifier: MPL-2.0
pub mod Xor
pub mod Field
pub mod Sbox
pub mod Mix
pub mod Words
